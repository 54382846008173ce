-- What a reader of conditions answers.
use Rattle.std.specs.Prelude.{◌≡◌, ℕ, Option, Some, None, Result, Ok, Err, ⊤}
use Rattle.std.specs.Option.{option_to_list}
use Rattle.sfc_plant.specs.Plants.{PlantData}
use Rattle.sfc_events.specs.declared.read_error.ReadErrorKind.{ReadErrorKind}
use Rattle.sfc_events.specs.declared.read_error.ReadErrorKind.TheVariants as kind
use Rattle.sfc_debug.specs.declared.break_condition.BreakCondition.{BreakCondition}
use Rattle.sfc_script.specs.declared.condition_error.ConditionError.{ConditionError}
use Rattle.sfc_script.specs.declared.condition_error.ConditionError.TheVariants.{UnknownProgram, Wrong, Memory}
use Rattle.sfc_script.specs.declared.script.ScriptError.{ScriptError}
use Rattle.sfc_script.specs.declared.script.ScriptError.TheVariants as error
use Rattle.sfc_script.specs.Commands.{Conditional}
use Rattle.sfc_script.specs.Scripts.{ConditionReads}

-- a text that is no expression is told with its line; want of memory has none
abbrev pub refusal : ℕ → ReadErrorKind → ScriptError
refusal n kind.Memory = error.Memory
refusal n _ = error.Faulty n

-- the condition that checking gave; none where the program instance isn't there
abbrev pub added : ℕ → Result BreakCondition ConditionError → Result (Option BreakCondition) ScriptError
added n (Ok condition) = Ok (Some condition)
added n (Err (UnknownProgram place)) = Ok None
added n (Err (Wrong place fault)) = Err (error.Faulty n)
added n (Err Memory) = Err error.Memory

-- what was answered for the condition of line n, behind k others
abbrev pub ReadsCondition : PlantData → ℕ → Conditional → ℕ → Result (Option BreakCondition) ScriptError → Type 0
ReadsCondition plant k c n (Ok condition) = ConditionReads plant k c.place.program c.text (Some (option_to_list condition))
ReadsCondition plant k c n (Err (error.Faulty m)) = (m ≡ n) × ConditionReads plant k c.place.program c.text None
ReadsCondition plant k c n (Err error.Memory) = ⊤
