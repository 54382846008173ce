-- What is told of a chart and of a script: in the words of the reader, of the loader and of the reader of scripts.
use Rattle.std.specs.Prelude.{◌≡◌, ◌≢◌, ◌≤◌, ℕ, suc, List, [], ◌∷◌, length, All, ⊤, Some, Ok, Err}
use Rattle.sfc_text.specs.Reads.{TextReads}
use Rattle.sfc_text.specs.Trees.{SourceTree}
use Rattle.sfc_script.specs.sfc_load.Accepted.{IsAccepted}
use Rattle.sfc_script.specs.sfc_load.Built.{source_check}
use Rattle.sfc_plant.specs.Plants.{PlantData}
use Rattle.sfc_script.specs.Scripts.{ScriptData, ScriptReads}
use Rattle.sfc_events.specs.declared.refusal.Refusal.{Refusal}
use Rattle.sfc_why.specs.declared.script.ScriptTold.{ScriptTold}
use Rattle.sfc_why.specs.declared.script.ScriptTold.TheVariants as script_told
use Rattle.sfc_why.specs.declared.chart.Told.{Told}
use Rattle.sfc_why.specs.declared.chart.Told.TheVariants as told
use Rattle.sfc_why.specs.declared.place.Place.{Place}
use Rattle.sfc_why.specs.declared.place.Place.TheVariants.{Token, Byte, Word, End, Whole}
use Rattle.sfc_why.specs.declared.report.Fault.{Fault}
use Rattle.sfc_why.specs.declared.report.Fault.TheVariants.{Reading, Loading, Script, Warning}
use Rattle.sfc_why.specs.declared.report.Report.{Report}
use Rattle.sfc_why.specs.Places.{IsPlaceOf, IsPlaceOfScript, front}
use Rattle.sfc_why.specs.Positions.{position_behind}

-- the report is of this refusal at this place of the text, whose line and column it tells
abbrev pub IsReportAt : List ℕ → Fault → Place → Report → Type 0
IsReportAt text refusal place report =
    (report.refusal ≡ refusal) × (report.place ≡ place) × (report.position ≡ position_behind (front text place))

-- the same, but that the line is this one of the file from which it came
abbrev pub IsReportInFile : List ℕ → Fault → Place → ℕ → Report → Type 0
IsReportInFile text refusal place line report =
    (report.refusal ≡ refusal) × (report.place ≡ place) × (report.position.line ≡ line)
    × (report.position.column ≡ (position_behind (front text place)).column)

-- why the text is no plant: what the reader finds, or the first check that fails
abbrev pub IsRefusedFor : List ℕ → Fault → Type 0
IsRefusedFor text (Reading kind) = TextReads text (Err kind)
IsRefusedFor text (Loading error) = (tree : SourceTree) × TextReads text (Ok tree) × (source_check tree ≡ Some error)
IsRefusedFor text (Script line) = ⊥
IsRefusedFor text (Warning refusal) = ⊥

-- the report is of this refusal, at a place of the text
abbrev pub IsReportFor : List ℕ → Fault → Report → Type 0
IsReportFor text refusal report = (place : Place) × IsPlaceOf text place × IsReportAt text refusal place report

-- a report of a fault of the text, at a place of it
abbrev pub IsReportOf : List ℕ → Report → Type 0
IsReportOf text report = IsRefusedFor text report.refusal × IsReportFor text report.refusal report

-- what is told of a chart: that it has no fault exactly where it is a plant, and else its first fault
abbrev pub Explains : List ℕ → Told → Type 0
Explains text (told.NoFault plant) = IsAccepted text plant
Explains text (told.Fault report) = IsReportOf text report

-- the report is of this line, at a place of the script
abbrev pub IsReportForScript : List ℕ → ℕ → Report → Type 0
IsReportForScript script line report = (place : Place) × IsPlaceOfScript script place × IsReportAt script (Script line) place report

-- a report of the first line of the script that is no command
abbrev pub IsReportOfScript : PlantData → List ℕ → Report → Type 0
IsReportOfScript plant script report = (line : ℕ) × ScriptReads plant script (Err line) × IsReportForScript script line report

-- the report is of a refusal that a command of the script will get, at a place of the script
abbrev pub IsWarningOf : List ℕ → Report → Type 0
IsWarningOf script report = (refusal : Refusal) × (place : Place) × IsPlaceOfScript script place × IsReportAt script (Warning refusal) place report

-- what is told of a script: that it has no fault, and warnings, exactly where it is read, and else its first faulty line
abbrev pub ExplainsScript : PlantData → List ℕ → ScriptTold → Type 0
ExplainsScript plant script (script_told.NoFault reports) =
    (said : ScriptData) × ScriptReads plant script (Ok said) × All (IsWarningOf script) reports.items
ExplainsScript plant script (script_told.Fault report) = IsReportOfScript plant script report

-- ---- all faults of a chart

-- where a place begins; the end of the text counts for a place that no text has
abbrev pub start_of_place : Place → ℕ
start_of_place (Token index from length) = from
start_of_place (Byte index from length) = from
start_of_place (Word from length) = from
start_of_place End = 4294967296
start_of_place Whole = 0

-- where a report's place begins
abbrev pub start : Report → ℕ
start report = start_of_place report.place

-- each begins behind the one before it, the first one at this place or behind it
abbrev pub RisesFrom : ℕ → List Report → Type 0
RisesFrom least [] = ⊤
RisesFrom least (report ∷ reports) = (least ≤ start report) × RisesFrom (suc (start report)) reports

-- at most 99 reports in the order of the text, at other places than this
abbrev pub IsBehind : ℕ → List Report → Type 0
IsBehind first others = RisesFrom 0 others × All (λ other. start other ≢ first) others × (length others ≤ 99)

-- None exactly where the text is a plant. Else the first one is of its first fault, and others stand behind it.
abbrev pub ExplainsAll : List ℕ → List Report → Type 0
ExplainsAll text [] = (plant : PlantData) × IsAccepted text plant
ExplainsAll text (first ∷ others) = IsReportOf text first × IsBehind (start first) others
