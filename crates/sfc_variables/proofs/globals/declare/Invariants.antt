use Rattle.std.proofs.Common.{◌≡◌, ◌++◌, length, map}
use Rattle.sfc_variables.specs.Checks.{in_turn}
use Rattle.sfc_variables.specs.Declarations.{declared_name, declared_as, declared_by, variable_of, global_check}
use Rattle.sfc_variables.proofs.globals.declare.Given as goal

abbrev pub invariant-names : goal.invariant-names
invariant-names l = record {
  checked : in_turn declared_name global_check l.initial.draft.names (declared_by l.declaration)
      ≡ in_turn declared_name global_check l.draft.names (map (declared_as l.declaration) l.rest);
  built : l.initial.draft.variables.items ++ map variable_of (declared_by l.declaration)
      ≡ l.draft.variables.items ++ map variable_of (map (declared_as l.declaration) l.rest);
  named : l.initial.draft.names ++ map declared_name (declared_by l.declaration)
      ≡ l.draft.names ++ map declared_name (map (declared_as l.declaration) l.rest);
}

abbrev pub decreases-names : goal.decreases-names
decreases-names l = length l.rest
