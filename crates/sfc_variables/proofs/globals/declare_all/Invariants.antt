use Rattle.std.proofs.Common.{◌≡◌, ◌++◌, length, map}
use Rattle.sfc_variables.specs.Checks.{in_turn}
use Rattle.sfc_variables.specs.Declarations.{declared_name, declared_in, variable_of, global_check}
use Rattle.sfc_variables.proofs.globals.declare_all.Given as goal

abbrev pub invariant-declarations : goal.invariant-declarations
invariant-declarations l = record {
  checked : in_turn declared_name global_check l.initial.draft.names (declared_in l.declarations)
      ≡ in_turn declared_name global_check l.draft.names (declared_in l.rest);
  built : l.initial.draft.variables.items ++ map variable_of (declared_in l.declarations)
      ≡ l.draft.variables.items ++ map variable_of (declared_in l.rest);
  named : l.initial.draft.names ++ map declared_name (declared_in l.declarations)
      ≡ l.draft.names ++ map declared_name (declared_in l.rest);
}

abbrev pub decreases-declarations : goal.decreases-declarations
decreases-declarations l = length l.rest
