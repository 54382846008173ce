-- Results as text (our choice; the Test Anything Protocol, version 12).
use Rattle.std.specs.Prelude.{ℕ, ◌==◌, ◌||◌, if◌then◌else◌, List, [], ◌∷◌, ◌++◌, flat_map}
use Rattle.std.specs.Fmt.{decimal}
use Rattle.sfc_replay.specs.sfc_script.Lines.{lines_of}
use Rattle.sfc_test.specs.declared.asked.Asked.{Asked}
use Rattle.sfc_test.specs.declared.asked.Asked.TheVariants.{Tap}
use Rattle.sfc_test.specs.declared.part.Part.{Part}
use Rattle.sfc_test.specs.declared.part.Part.TheVariants as parts
use Rattle.sfc_test.specs.Cases.{TitledCase}
use Rattle.sfc_test.specs.Parts.{part_text}
use Rattle.sfc_test.specs.Results.{CaseResult}

-- a text on a line
unfoldable pub ended : List ℕ → List ℕ
ended text = text ++ part_text parts.LineEnd

-- a text on a line, behind what stands before it
unfoldable pub headed : Part → List ℕ → List ℕ
headed front text = part_text front ++ ended text

-- each line of a text behind it
unfoldable pub each_headed : Part → List ℕ → List ℕ
each_headed front text = flat_map (headed front) (lines_of text)

-- ---- for a reader

-- `ok` or FAILED with the title, and what is told of a case that failed, line by line
unfoldable pub failed_text : List ℕ → List ℕ → List ℕ
failed_text title told = headed parts.Failed title ++ each_headed parts.Indent told

abbrev pub result_text : CaseResult → List ℕ
result_text r = if r.passed then headed parts.Passed r.title else failed_text r.title r.told

-- ---- in the Test Anything Protocol

-- a sharp sign (35) would begin a directive: it stands behind a backslash (92), as a backslash does
abbrev pub escaped_byte : ℕ → List ℕ
escaped_byte b = if b == 35 || b == 92 then 92 ∷ b ∷ [] else b ∷ []

unfoldable pub escaped : List ℕ → List ℕ
escaped title = flat_map escaped_byte title

unfoldable pub tap_title : List ℕ → List ℕ
tap_title title = part_text parts.TapDash ++ ended (escaped title)

unfoldable pub tap_line : Part → ℕ → List ℕ → List ℕ
tap_line word number title = part_text word ++ (decimal number ++ tap_title title)

unfoldable pub tap_failed : ℕ → List ℕ → List ℕ → List ℕ
tap_failed number title told = tap_line parts.TapFailed number title ++ each_headed parts.TapComment told

abbrev pub tap_text : ℕ → CaseResult → List ℕ
tap_text number r = if r.passed then tap_line parts.TapPassed number r.title else tap_failed number r.title r.told

-- ---- as it is asked

-- the result of a case of this number
abbrev pub text_of : Asked → ℕ → CaseResult → List ℕ
text_of Tap number r = tap_text number r
text_of _ number r = result_text r

-- the titles alone
abbrev pub titles_text : List TitledCase → List ℕ
titles_text cases = flat_map (λ one. ended one.title) cases
