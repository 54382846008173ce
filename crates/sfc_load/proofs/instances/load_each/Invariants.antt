use Rattle.std.proofs.Common.{◌≡◌, ◌++◌, [], length, map}
use Rattle.sfc_program.specs.sfc_variables.Checks.{in_turn}
use Rattle.sfc_load.specs.Loading.{instance_name, instance_check}
use Rattle.sfc_load.specs.Built.{instance_of}
use Rattle.sfc_load.proofs.instances.load_each.Given as goal

abbrev pub invariant-instances : goal.invariant-instances
invariant-instances l = record {
  checked : in_turn instance_name (instance_check l.tasks l.types) [] l.instances
      ≡ in_turn instance_name (instance_check l.tasks l.types) l.names l.rest;
  built : map (instance_of l.tasks l.types) l.instances ≡ l.loaded.items ++ map (instance_of l.tasks l.types) l.rest;
  named : map instance_name l.instances ≡ l.names ++ map instance_name l.rest;
}

abbrev pub decreases-instances : goal.decreases-instances
decreases-instances l = length l.rest
