use Rattle.std.proofs.Common.{◌≡◌, length}
use Rattle.sfc_variables.specs.Checks.{in_turn}
use Rattle.sfc_variables.specs.Declarations.{declared_name, declared_in, global_check}
use Rattle.sfc_variables.specs.Drafts.{with_declared}
use Rattle.sfc_variables.proofs.own.with_locals.Given as goal

abbrev pub invariant-declarations : goal.invariant-declarations
invariant-declarations l = record {
  checked : in_turn declared_name global_check l.initial.draft.names (declared_in l.declarations)
      ≡ in_turn declared_name global_check l.draft.names (declared_in l.rest);
  built : with_declared l.initial.draft (declared_in l.declarations) ≡ with_declared l.draft (declared_in l.rest);
}

abbrev pub decreases-declarations : goal.decreases-declarations
decreases-declarations l = length l.rest
