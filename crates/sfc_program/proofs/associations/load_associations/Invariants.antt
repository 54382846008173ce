use Rattle.std.proofs.Common.{◌≡◌, ◌++◌, length, map}
use Rattle.sfc_variables.specs.Checks.{each}
use Rattle.sfc_program.specs.Loading.{association_check}
use Rattle.sfc_program.specs.Built.{association_of}
use Rattle.sfc_program.proofs.associations.load_associations.Given as goal

abbrev pub invariant-associations : goal.invariant-associations
invariant-associations l = record {
  checked : each (association_check l.fn.scope) l.associations ≡ each (association_check l.fn.scope) l.rest;
  built : map (association_of l.fn.scope) l.associations ≡ l.loaded.items ++ map (association_of l.fn.scope) l.rest;
}

abbrev pub decreases-associations : goal.decreases-associations
decreases-associations l = length l.rest
