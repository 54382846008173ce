use Rattle.std.proofs.Common.{◌≡◌, ◌++◌, [], length}
use Rattle.sfc_variables.specs.Checks.{in_turn}
use Rattle.sfc_program.specs.Loading.{side_step_check}
use Rattle.sfc_program.specs.Built.{step_ids}
use Rattle.sfc_program.proofs.transitions.load_side.Given as goal

abbrev pub invariant-names : goal.invariant-names
invariant-names l = record {
  checked : in_turn (λ name. name) (side_step_check l.fn.scope.steps) [] l.names
      ≡ in_turn (λ name. name) (side_step_check l.fn.scope.steps) l.seen l.rest;
  built : step_ids l.fn.scope.steps l.names ≡ l.loaded.items ++ step_ids l.fn.scope.steps l.rest;
}

abbrev pub decreases-names : goal.decreases-names
decreases-names l = length l.rest
