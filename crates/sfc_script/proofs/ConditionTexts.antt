-- The conditions of breakpoints.
use Rattle.std.proofs.Common.{◌≡◌, ℕ, List, [], ◌∷◌, Option, Some, None, Result, Ok, Err, refl, sym, ap}
use Rattle.sfc_plant.specs.Plants.{PlantData}
use Rattle.sfc_events.specs.declared.read_error.ReadErrorKind.{ReadErrorKind}
use Rattle.sfc_events.specs.declared.read_error.ReadErrorKind.TheVariants as kind
use Rattle.sfc_tokens.specs.Texts.{FindsError}
use Rattle.sfc_text.specs.Reads.{ExpressionReads}
use Rattle.sfc_text.specs.Trees.{Tree}
use Rattle.sfc_load.specs.sfc_check.declared.type_error.TypeError.TheVariants as type_error
use Rattle.sfc_debug.specs.declared.break_condition.BreakCondition.{BreakCondition}
use Rattle.sfc_script.specs.Conditions.{Gives, condition_of}
use Rattle.sfc_script.specs.declared.condition_error.ConditionError.{ConditionError}
use Rattle.sfc_script.specs.declared.condition_error.ConditionError.TheVariants.{UnknownProgram, Wrong, Memory}
use Rattle.sfc_script.specs.Commands.{Conditional}
use Rattle.sfc_script.specs.Scripts.{ConditionReads, added_by}
use Rattle.sfc_script.specs.ConditionAnswers.{ReadsCondition, added, refusal}

-- a text that is an expression
by_tree : (plant : PlantData) (k : ℕ) (c : Conditional) (tree : Tree) (more : Option (List BreakCondition)) → ExpressionReads c.text (Ok tree)
    → added_by (condition_of plant k c.place.program tree) ≡ more → ConditionReads plant k c.place.program c.text more
by_tree plant k c tree more reads e = (Ok tree, reads, sym e)

-- what checking gave is told
pub condition_told : (plant : PlantData) (k : ℕ) (c : Conditional) (n : ℕ) (tree : Tree) (checked : Result BreakCondition ConditionError)
    → ExpressionReads c.text (Ok tree) → Gives (λ condition. condition) checked (condition_of plant k c.place.program tree)
    → ReadsCondition plant k c n (added n checked)
condition_told plant k c n tree (Ok condition) reads e = by_tree plant k c tree (Some (condition ∷ [])) reads (ap added_by e)
condition_told plant k c n tree (Err (UnknownProgram place)) reads e = by_tree plant k c tree (Some []) reads (ap added_by e)
condition_told plant k c n tree (Err (Wrong place type_error.Unknown)) reads e = (refl, by_tree plant k c tree None reads (ap added_by e))
condition_told plant k c n tree (Err (Wrong place type_error.WrongType)) reads e = (refl, by_tree plant k c tree None reads (ap added_by e))
condition_told plant k c n tree (Err (Wrong place type_error.LiteralRange)) reads e = (refl, by_tree plant k c tree None reads (ap added_by e))
condition_told plant k c n tree (Err (Wrong place type_error.NotAssignable)) reads e = (refl, by_tree plant k c tree None reads (ap added_by e))
condition_told plant k c n tree (Err (Wrong place type_error.Memory)) reads e = absurd e
condition_told plant k c n tree (Err Memory) reads e = tt

-- a text that is none
no_tree : (plant : PlantData) (k : ℕ) (c : Conditional) (kind : ReadErrorKind) → ExpressionReads c.text (Err kind)
    → ConditionReads plant k c.place.program c.text None
no_tree plant k c kind reads = (Err kind, reads, refl)

pub refusal_told : (plant : PlantData) (k : ℕ) (c : Conditional) (n : ℕ) (kind : ReadErrorKind)
    → FindsError kind (λ outcome. ExpressionReads c.text outcome) → ReadsCondition plant k c n (Err (refusal n kind))
refusal_told plant k c n kind.TooLong reads = (refl, no_tree plant k c kind.TooLong reads)
refusal_told plant k c n kind.NotAscii reads = (refl, no_tree plant k c kind.NotAscii reads)
refusal_told plant k c n kind.BadToken reads = (refl, no_tree plant k c kind.BadToken reads)
refusal_told plant k c n kind.Syntax reads = (refl, no_tree plant k c kind.Syntax reads)
refusal_told plant k c n kind.TooDeep reads = (refl, no_tree plant k c kind.TooDeep reads)
refusal_told plant k c n kind.BadDuration reads = (refl, no_tree plant k c kind.BadDuration reads)
refusal_told plant k c n kind.BadNumber reads = (refl, no_tree plant k c kind.BadNumber reads)
refusal_told plant k c n kind.Memory reads = tt
