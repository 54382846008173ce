-- A report as text (our choice).
use Rattle.std.specs.Prelude.{◌≡◌, ℕ, List, [], ◌++◌, Option, Some, None, Vec, true, codes}
use Rattle.std.specs.Fmt.{decimal}
use Rattle.std.specs.Global.{Global}
use Rattle.sfc_explain.specs.declared.explanation.Explanation.{Explanation}
use Rattle.sfc_explain.specs.Finding.{is_numbered, is_named}
use Rattle.sfc_events.specs.ReadErrors as reading
use Rattle.sfc_events.specs.declared.load_error.Limit.{Limit as LimitKind}
use Rattle.sfc_events.specs.declared.load_error.LoadError.{LoadError}
use Rattle.sfc_events.specs.declared.load_error.LoadError.TheVariants.{Limit}
use Rattle.sfc_events.specs.LoadErrors as loading
use Rattle.sfc_events.specs.Refusals as refusals
use Rattle.sfc_events.specs.declared.refusal.Refusal.{Refusal}
use Rattle.sfc_why.specs.declared.page.Piece.{Piece}
use Rattle.sfc_why.specs.declared.page.Piece.TheVariants.{Blank, Colon, Behind, Near, LineEnd, ScriptLine, Warning, Meaning, Cause}
use Rattle.sfc_why.specs.declared.position.Position.{Position}
use Rattle.sfc_why.specs.declared.report.Fault.{Fault}
use Rattle.sfc_why.specs.declared.report.Fault.TheVariants.{Reading, Loading, Script}
use Rattle.sfc_why.specs.declared.report.Fault.TheVariants as fault
use Rattle.sfc_why.specs.declared.report.Report.{Report}

-- what stands between parts
unfoldable pub piece_text : Piece → List ℕ
piece_text Blank = codes " "
piece_text Colon = codes ":"
piece_text Behind = codes ": "
piece_text Near = codes "; near: "
piece_text LineEnd = codes "\n"
piece_text ScriptLine = codes "script line "
piece_text Warning = codes "warning "
piece_text Meaning = codes "  meaning: "
piece_text Cause = codes "  usual cause: "

-- a number and a name
unfoldable pub numbered : ℕ → List ℕ → List ℕ
numbered n name = decimal n ++ (piece_text Blank ++ name)

-- which limit it is
unfoldable pub which : LimitKind → List ℕ
which limit = piece_text Blank ++ loading.name_of_limit limit

abbrev pub limit_text : LoadError → List ℕ
limit_text (Limit limit) = which limit
limit_text _ = []

-- the line of a script
unfoldable pub script_text : ℕ → List ℕ
script_text line = piece_text ScriptLine ++ decimal line

-- a number and a name by which the loader refuses
unfoldable pub loading_text : LoadError → List ℕ
loading_text error = numbered (loading.number_of error) (loading.name_of error) ++ limit_text error

-- for what a command will be refused
unfoldable pub warning_text : Refusal → List ℕ
warning_text refusal = piece_text Warning ++ numbered (refusals.number_of refusal) (refusals.name_of refusal)

-- what is refused: by number and name, a script by its line
abbrev pub refusal_text : Fault → List ℕ
refusal_text (Reading kind) = numbered (reading.number_of kind) (reading.name_of kind)
refusal_text (Loading error) = loading_text error
refusal_text (Script line) = script_text line
refusal_text (fault.Warning refusal) = warning_text refusal

-- a colon and a number; a line and a column
unfoldable pub counted : ℕ → List ℕ
counted n = piece_text Colon ++ decimal n

unfoldable pub position_text : Position → List ℕ
position_text position = counted position.line ++ counted position.column

-- what is refused, and the word, behind a place
unfoldable pub refused : Fault → List ℕ
refused refusal = piece_text Behind ++ refusal_text refusal

-- what may be meant, where that is known
unfoldable pub meant : List ℕ → List ℕ
meant near = piece_text Near ++ near

abbrev pub near_text : Option (Vec ℕ Global) → List ℕ
near_text None = []
near_text (Some near) = meant near.items

unfoldable pub end_text : Report → List ℕ
end_text report = near_text report.near ++ piece_text LineEnd

unfoldable pub word_text : Report → List ℕ
word_text report = piece_text Behind ++ (report.word.items ++ end_text report)

unfoldable pub told_text : Report → List ℕ
told_text report = refused report.refusal ++ word_text report

-- the first line
unfoldable pub heading : List ℕ → Report → List ℕ
heading file report = file ++ (position_text report.position ++ told_text report)

-- what the refusal means, and what usually leads to it
unfoldable pub meaning_text : Explanation → List ℕ
meaning_text explanation = piece_text Meaning ++ (explanation.meaning.now ++ piece_text LineEnd)

unfoldable pub cause_text : Explanation → List ℕ
cause_text explanation = piece_text Cause ++ (explanation.cause.now ++ piece_text LineEnd)

abbrev pub sense : Option Explanation → List ℕ
sense None = []
sense (Some explanation) = meaning_text explanation ++ cause_text explanation

-- a report, whole
abbrev pub page : List ℕ → Report → Option Explanation → List ℕ
page file report explanation = heading file report ++ (report.lines.items ++ sense explanation)

-- the explanation is that of the refusal: by its number, of a script by its name
abbrev pub IsExplainedBy : Fault → Explanation → Type 0
IsExplainedBy (Reading kind) explanation = is_numbered (reading.number_of kind) explanation ≡ true
IsExplainedBy (Loading error) explanation = is_numbered (loading.number_of error) explanation ≡ true
IsExplainedBy (Script line) explanation = is_named (codes "script line") explanation ≡ true
IsExplainedBy (fault.Warning refusal) explanation = is_numbered (refusals.number_of refusal) explanation ≡ true
