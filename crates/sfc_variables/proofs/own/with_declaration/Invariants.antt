use Rattle.std.proofs.Common.{◌≡◌, length, map}
use Rattle.sfc_variables.specs.Checks.{in_turn}
use Rattle.sfc_variables.specs.Declarations.{declared_name, declared_as, declared_by, global_check}
use Rattle.sfc_variables.specs.Drafts.{with_declared}
use Rattle.sfc_variables.proofs.own.with_declaration.Given as goal

abbrev pub invariant-names : goal.invariant-names
invariant-names l = record {
  checked : in_turn declared_name global_check l.initial.draft.names (declared_by l.declaration)
      ≡ in_turn declared_name global_check l.draft.names (map (declared_as l.declaration) l.rest);
  built : with_declared l.initial.draft (declared_by l.declaration) ≡ with_declared l.draft (map (declared_as l.declaration) l.rest);
}

abbrev pub decreases-names : goal.decreases-names
decreases-names l = length l.rest
