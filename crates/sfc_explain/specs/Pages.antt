-- Explanations as text (our choice).
use Rattle.std.specs.Prelude.{ℕ, List, [], ◌∷◌, ◌++◌, Option, Some, None, codes}
use Rattle.std.specs.Fmt.{decimal}
use Rattle.sfc_explain.specs.declared.explanation.Explanation.{Explanation}
use Rattle.sfc_explain.specs.declared.explanation.LineMark.{LineMark}
use Rattle.sfc_explain.specs.declared.explanation.LineMark.TheVariants.{No, Yes, First}
use Rattle.sfc_explain.specs.declared.explanation.ExampleKind.{ExampleKind}
use Rattle.sfc_explain.specs.declared.explanation.ExampleKind.TheVariants.{Chart, Script, Shell, Code}
use Rattle.sfc_explain.specs.declared.page.Label.{Label}
use Rattle.sfc_explain.specs.declared.page.Label.TheVariants.{From, Line, Meaning, Cause}
use Rattle.sfc_explain.specs.Topics.{number_of, name_of}

-- a text with a line end
unfoldable pub ended : List ℕ → List ℕ
ended line = line ++ codes "\n"

-- what stands in front of a line of an explanation
unfoldable pub label_text : Label → List ℕ
label_text From = codes "  told by: "
label_text Line = codes "  line: "
label_text Meaning = codes "  meaning: "
label_text Cause = codes "  usual cause: "

-- a line of an explanation
unfoldable pub field : Label → List ℕ → List ℕ
field label text = label_text label ++ ended text

-- a number and a blank; nothing where there is none
abbrev pub number_text : Option ℕ → List ℕ
number_text None = []
number_text (Some n) = decimal n ++ codes " "

-- whether a line is told; `1` where it is always that one
abbrev pub mark_text : LineMark → List ℕ
mark_text No = codes "no"
mark_text Yes = codes "yes"
mark_text First = codes "1"

-- where an example stands
abbrev pub kind_text : ExampleKind → List ℕ
kind_text Chart = codes "  example, in a chart:\n"
kind_text Script = codes "  example, in a script:\n"
kind_text Shell = codes "  example, on the command line:\n"
kind_text Code = codes "  example, in code, as no script leads to it:\n"

-- the number and the name
unfoldable pub heading : Explanation → List ℕ
heading explanation = number_text (number_of explanation.topic) ++ ended (name_of explanation.topic)

-- what stands behind a name in a list
unfoldable pub colon : List ℕ
colon = codes ": "

-- the number and the name, and what it means, in a line
unfoldable pub row : Explanation → List ℕ
row explanation =
    number_text (number_of explanation.topic) ++ (name_of explanation.topic ++ (colon ++ ended explanation.meaning.now))

-- such a line for each explanation
unfoldable pub rows : List Explanation → List ℕ
rows [] = []
rows (explanation ∷ explanations) = row explanation ++ rows explanations

-- what tells it, and whether with a line
unfoldable pub source : Explanation → List ℕ
source explanation = field From explanation.from.now ++ field Line (mark_text explanation.line)

-- what it means, and what usually leads to it
unfoldable pub sense : Explanation → List ℕ
sense explanation = field Meaning explanation.meaning.now ++ field Cause explanation.cause.now

-- the example
unfoldable pub example : Explanation → List ℕ
example explanation = kind_text explanation.kind ++ explanation.example.now

-- all but the number and the name
unfoldable pub body : Explanation → List ℕ
body explanation = source explanation ++ (sense explanation ++ example explanation)

-- an explanation, whole
abbrev pub page : Explanation → List ℕ
page explanation = heading explanation ++ body explanation
