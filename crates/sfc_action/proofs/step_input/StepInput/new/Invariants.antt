use Rattle.std.proofs.Common.{ℕ, ◌<◌, take}
use Rattle.std.specs.Prelude.{All}
use Rattle.sfc_tables.specs.declared.step_action.StepAction.{StepAction}
use Rattle.sfc_action.specs.Private.StepGiving.{given_of, IsGivenBy}
use Rattle.sfc_action.proofs.step_input.StepInput.new.Given as goal

abbrev pub invariant-loop-association : goal.invariant-loop-association
invariant-loop-association l =
    (n : ℕ) → All (λ (x : StepAction). x.action.0 < n) l.associations → IsGivenBy n (take l.association-index l.associations) (given_of l.step_input)
