-- Which table of conditions a list of expressions is (2.6.3, 3.3).
use Rattle.std.specs.Prelude.{ℕ, ◌+◌, ◌≡◌, List, [], ◌∷◌, Option, Some, None, Result, Ok, Err, slice_get, ⊤}
use Rattle.sfc_base.specs.declared.ids.ProgId.{ProgId}
use Rattle.sfc_base.specs.declared.var_type.VarType.TheVariants.{Bool}
use Rattle.sfc_text.specs.declared.expression.Expression.{Expression}
use Rattle.sfc_text.specs.Trees.{Tree, tree_of}
use Rattle.sfc_load.specs.sfc_check.declared.type_error.TypeError.{TypeError}
use Rattle.sfc_load.specs.sfc_check.declared.type_error.TypeError.TheVariants as type_error
use Rattle.sfc_load.specs.sfc_check.Checking.{checked}
use Rattle.sfc_load.specs.sfc_check.TypeFaults.{TypeFault, Checked, Unknown, WrongType, LiteralRange, NotAssignable}
use Rattle.sfc_expr.specs.Trees as typed
use Rattle.sfc_plant.specs.declared.instance.Instance.{Instance}
use Rattle.sfc_plant.specs.InstanceSpaces.{space_of}
use Rattle.sfc_plant.specs.Plants.{PlantData}
use Rattle.sfc_load.specs.sfc_program.Names.{names_in}
use Rattle.sfc_debug.specs.declared.break_condition.BreakCondition.{BreakCondition}
use Rattle.sfc_script.specs.declared.condition_error.ConditionError.{ConditionError}
use Rattle.sfc_script.specs.declared.condition_error.ConditionError.TheVariants as error

-- an entry of the list: a program instance, and an expression
abbrev pub Entry : Type 0
Entry = ProgId × Expression

-- an entry that is no condition, by its place from 0: its program instance isn't there, or its expression has a type fault
pub data ConditionFault : Type 0 where
  UnknownProgram : ℕ → ConditionFault
  Wrong : ℕ → TypeFault → ConditionFault

-- the condition of the expression that checking gives; a fault has its place
abbrev pub condition_by : ProgId → ℕ → Checked typed.Expression → Result BreakCondition ConditionFault
condition_by p place (Ok expression) = Ok (record { program = p; condition = expression })
condition_by p place (Err fault) = Err (Wrong place fault)

-- where the instance is there
abbrev pub condition_in : Option Instance → ℕ → Result BreakCondition ConditionFault → Result BreakCondition ConditionFault
condition_in None place condition = Err (UnknownProgram place)
condition_in (Some instance) place condition = condition

-- the condition that stands at this place: a BOOL expression, in which names are those of the conditions of the instance
abbrev pub condition_of : PlantData → ℕ → ProgId → Tree → Result BreakCondition ConditionFault
condition_of plant place p tree =
    condition_in (slice_get plant.instances p.0) place
    (condition_by p place (checked (names_in (space_of plant p) None) tree Bool))

-- that of an entry
abbrev pub condition_at : PlantData → ℕ → Entry → Result BreakCondition ConditionFault
condition_at plant place entry = condition_of plant place entry.0 (tree_of entry.1)

-- one more before the others, or the first fault
abbrev pub before : Result BreakCondition ConditionFault → Result (List BreakCondition) ConditionFault →
    Result (List BreakCondition) ConditionFault
before (Err fault) table = Err fault
before (Ok condition) (Err fault) = Err fault
before (Ok condition) (Ok table) = Ok (condition ∷ table)

-- the table of the entries, of which the first has this place
abbrev pub conditions_from : PlantData → ℕ → List Entry → Result (List BreakCondition) ConditionFault
conditions_from plant place [] = Ok []
conditions_from plant place (entry ∷ entries) =
    before (condition_at plant place entry) (conditions_from plant (place + 1) entries)

-- ---- what a function returned, beside that

-- the error is the fault; want of memory says nothing
abbrev pub Fails : {Y : Type 0} → ConditionError → Result Y ConditionFault → Type 0
Fails (error.UnknownProgram place) outcome = outcome ≡ Err (UnknownProgram place)
Fails (error.Wrong place type_error.Unknown) outcome = outcome ≡ Err (Wrong place Unknown)
Fails (error.Wrong place type_error.WrongType) outcome = outcome ≡ Err (Wrong place WrongType)
Fails (error.Wrong place type_error.LiteralRange) outcome = outcome ≡ Err (Wrong place LiteralRange)
Fails (error.Wrong place type_error.NotAssignable) outcome = outcome ≡ Err (Wrong place NotAssignable)
Fails (error.Wrong place type_error.Memory) outcome = ⊥
Fails error.Memory outcome = ⊤

abbrev pub Gives : {X Y : Type 0} → (X → Y) → Result X ConditionError → Result Y ConditionFault → Type 0
Gives view (Ok x) outcome = outcome ≡ Ok (view x)
Gives view (Err e) outcome = Fails e outcome

-- the error that has its place; want of memory has none
abbrev pub with_place : ℕ → TypeError → ConditionError
with_place place type_error.Memory = error.Memory
with_place place e = error.Wrong place e
