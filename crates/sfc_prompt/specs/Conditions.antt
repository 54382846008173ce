-- What a text is as a condition.
use Rattle.std.specs.Prelude.{◌≡◌, List, [], ◌∷◌, Option, Some, None, Result, Ok, Err}
use Rattle.sfc_asking.specs.sfc_script.declared.condition_error.ConditionError.{ConditionError}
use Rattle.sfc_asking.specs.sfc_script.declared.condition_error.ConditionError.TheVariants as error
use Rattle.sfc_asking.specs.sfc_debug.declared.break_condition.BreakCondition.{BreakCondition}
use Rattle.sfc_prompt.specs.declared.expression.Found.{Found}
use Rattle.sfc_prompt.specs.declared.expression.Found.TheVariants.{Condition, NoProgram, Faulty}

-- what it adds to a table of conditions, where a script has it
abbrev pub added_by : Found → Option (List BreakCondition)
added_by (Condition condition) = Some (condition ∷ [])
added_by NoProgram = Some []
added_by (Faulty fault) = None

-- it is what checking gave; without memory nothing is found
abbrev pub IsFound : Result BreakCondition ConditionError → Found → Type 0
IsFound (Ok condition) found = added_by found ≡ Some (condition ∷ [])
IsFound (Err (error.UnknownProgram place)) found = added_by found ≡ Some []
IsFound (Err (error.Wrong place fault)) found = added_by found ≡ None
IsFound (Err error.Memory) found = ⊥
