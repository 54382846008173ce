use Rattle.std.proofs.Common.{◌≡◌, ◌++◌, length, map}
use Rattle.sfc_variables.specs.Checks.{each}
use Rattle.sfc_program.specs.Loading.{indicator_check}
use Rattle.sfc_program.specs.Built.{variable_in}
use Rattle.sfc_program.proofs.associations.load_indicators.Given as goal

abbrev pub invariant-names : goal.invariant-names
invariant-names l = record {
  checked : each (indicator_check l.fn.scope) l.names ≡ each (indicator_check l.fn.scope) l.rest;
  built : map (variable_in l.fn.scope) l.names ≡ l.loaded.items ++ map (variable_in l.fn.scope) l.rest;
}

abbrev pub decreases-names : goal.decreases-names
decreases-names l = length l.rest
