-- Results as XML (the form of JUnit).
use Rattle.std.specs.Prelude.{ℕ, ◌==◌, nat_le, Bool, ◌&&◌, ◌||◌, if◌then◌else◌, List, [], ◌∷◌, ◌++◌, flat_map, Option, Some, None}
use Rattle.std.specs.Fmt.{decimal}
use Rattle.sfc_test.specs.declared.part.Part.{Part}
use Rattle.sfc_test.specs.declared.part.Part.TheVariants as parts
use Rattle.sfc_test.specs.Parts.{part_text}
use Rattle.sfc_test.specs.Results.{CaseResult}

-- a line end, or a character of ASCII from the blank to the tilde
abbrev pub is_plain : ℕ → Bool
is_plain b = b == 10 || (nat_le 32 b && nat_le b 126)

-- a tab (9) is a blank, and what is no plain character a question mark
abbrev pub plain_text : ℕ → List ℕ
plain_text b = if b == 9 then 32 ∷ [] else if is_plain b then b ∷ [] else 63 ∷ []

-- the names of the bytes of markup: & < > "
abbrev pub markup_of : ℕ → Option Part
markup_of b =
    if b == 38 then Some parts.Ampersand else
    if b == 60 then Some parts.Less else
    if b == 62 then Some parts.Greater else
    if b == 34 then Some parts.Quote else None

abbrev pub text_by : ℕ → Option Part → List ℕ
text_by b None = plain_text b
text_by b (Some markup) = part_text markup

-- a byte of a text
abbrev pub byte_text : ℕ → List ℕ
byte_text b = text_by b (markup_of b)

unfoldable pub xml_text : List ℕ → List ℕ
xml_text text = flat_map byte_text text

-- a case of a file, with its title
unfoldable pub title_text : List ℕ → List ℕ
title_text title = part_text parts.TitleBegins ++ (xml_text title ++ part_text parts.TitleEnds)

unfoldable pub case_text : List ℕ → List ℕ → List ℕ
case_text file title = part_text parts.CaseBegins ++ (xml_text file ++ title_text title)

unfoldable pub passed_element : List ℕ → List ℕ → List ℕ
passed_element file title = case_text file title ++ part_text parts.CaseEnds

-- what is told of a case that failed
unfoldable pub failure_text : List ℕ → List ℕ
failure_text told = part_text parts.FailureBegins ++ (xml_text told ++ part_text parts.FailureEnds)

unfoldable pub failed_element : List ℕ → List ℕ → List ℕ → List ℕ
failed_element file title told = case_text file title ++ failure_text told

-- the element of a result
abbrev pub element_of : List ℕ → CaseResult → List ℕ
element_of file r = if r.passed then passed_element file r.title else failed_element file r.title r.told

-- ---- the document

unfoldable pub counts_attributes : ℕ → ℕ → List ℕ
counts_attributes tests failures =
    part_text parts.TestsBegin ++ (decimal tests ++ (part_text parts.FailuresBegin ++ decimal failures))

unfoldable pub elements_text : List ℕ → List ℕ
elements_text elements = part_text parts.CasesBegin ++ (elements ++ part_text parts.DocumentEnds)

-- of a chart of this name, with so many cases, so many of which failed, and their elements
unfoldable pub document : List ℕ → ℕ → ℕ → List ℕ → List ℕ
document chart tests failures elements =
    part_text parts.DocumentBegins ++ (xml_text chart ++ (counts_attributes tests failures ++ elements_text elements))
