-- Lists of entries, the oldest first, and which of them are legal histories.
use Rattle.std.specs.Prelude.{◌≡◌, List, [], ◌∷◌, Result, Ok}
use Rattle.sfc_plant.specs.Plants.{PlantData}
use Rattle.sfc_events.specs.declared.command.Answer.{Answer}
use Rattle.sfc_events.specs.declared.refusal.Refusal.{Refusal}
use Rattle.sfc_debug.specs.declared.break_condition.BreakCondition.{BreakCondition}
use Rattle.sfc_debug.specs.Histories.{TimedCommand, CommandHistory}
use Rattle.sfc_debug.specs.Verdict.{verdict}
use Rattle.sfc_control.specs.declared.entry.Entry.{Entry}

abbrev pub timed : Entry → TimedCommand
timed e = (e.command, e.raw)

-- the commands of the entries after those of a history, the newest first
abbrev pub told : CommandHistory → List Entry → CommandHistory
told h [] = h
told h (e ∷ es) = told (timed e ∷ h) es

abbrev pub commands_of : List Entry → CommandHistory
commands_of es = told [] es

-- the verdicts on the entries' commands, each after the history and the entries before it
abbrev pub verdicts : PlantData → List BreakCondition → CommandHistory → List Entry → List (Result Answer Refusal)
verdicts plant table h [] = []
verdicts plant table h (e ∷ es) = verdict plant table h e.command e.raw ∷ verdicts plant table (timed e ∷ h) es

abbrev pub answers : List Entry → List (Result Answer Refusal)
answers [] = []
answers (e ∷ es) = Ok e.answer ∷ answers es

-- each answer is the verdict after the history and the entries before it
abbrev pub IsLegalAfter : PlantData → List BreakCondition → CommandHistory → List Entry → Type 0
IsLegalAfter plant table h es = verdicts plant table h es ≡ answers es

-- after nothing
abbrev pub IsLegal : PlantData → List BreakCondition → List Entry → Type 0
IsLegal plant table es = IsLegalAfter plant table [] es
