-- A script that is read line by line.
use Rattle.std.specs.Prelude.{◌≡◌, ℕ, ℤ, List, length, Option, Some, None, Result, Ok, Err, ⊤}
use Rattle.std.specs.Option.{option_to_list}
use Rattle.sfc_plant.specs.Plants.{PlantData}
use Rattle.sfc_events.specs.declared.read_error.ReadErrorKind.TheVariants as kind
use Rattle.sfc_debug.specs.declared.break_condition.BreakCondition.{BreakCondition}
use Rattle.sfc_script.specs.declared.condition_error.ConditionError.TheVariants.{Memory}
use Rattle.sfc_script.specs.declared.point.Place.{Place}
use Rattle.sfc_script.specs.declared.script.Script.{Script}
use Rattle.sfc_script.specs.declared.script.ScriptError.{ScriptError}
use Rattle.sfc_script.specs.declared.script.ScriptError.TheVariants as error
use Rattle.sfc_script.specs.Answers.{script_data}
use Rattle.sfc_script.specs.Commands as commands
use Rattle.sfc_script.specs.Commands.{Said}
use Rattle.sfc_script.specs.Scripts.{ScriptData, LineReads, in_table, joined}

-- what line n says was added to a script, or is no command
abbrev pub Adds : Option ScriptData → ℕ → Script → Script → Result (Unit {0}) ScriptError → Type 0
Adds said n old new (Ok _) = (first : ScriptData) × (said ≡ Some first) × (script_data new ≡ joined (script_data old) first)
Adds said n old new (Err (error.Faulty m)) = (m ≡ n) × (said ≡ None)
Adds said n old new (Err error.Memory) = ⊤

-- a breakpoint, with its condition or none
abbrev pub AddsCondition : Place → ℤ → Option BreakCondition → ℕ → Script → Script → Result (Unit {0}) ScriptError → Type 0
AddsCondition place t condition n old new result =
    (text : List ℕ) → Adds
    (in_table (length old.conditions.items) (record { place = place; text = text }) t (Some (option_to_list condition)))
    n old new result

-- what a line says
abbrev pub AddsLine : PlantData → Said → ℕ → Script → Script → Result (Unit {0}) ScriptError → Type 0
AddsLine plant line n old new (Err error.Memory) = ⊤
AddsLine plant line n old new result =
    (said : Option ScriptData) × LineReads plant (length old.conditions.items) line said × Adds said n old new result
