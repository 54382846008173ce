use Rattle.std.proofs.Common.{◌≡◌, ◌+◌, ◌≤◌, ◌++◌, length, flat_map}
use Rattle.sfc_base.specs.declared.limits.TheConstants.{VARIABLES}
use Rattle.sfc_plant.specs.Image.{locals_of, starts_from}
use Rattle.sfc_load.proofs.image_check.count_variables.Given as goal

abbrev pub invariant-instances : goal.invariant-instances
invariant-instances l = record {
  few : l.count ≤ VARIABLES;
  counted : length l.globals + length (flat_map (locals_of l.types) l.instances)
      ≡ l.count + length (flat_map (locals_of l.types) l.rest);
  built : starts_from (length l.globals) l.types l.instances ≡ l.starts.items ++ starts_from l.count l.types l.rest;
}

abbrev pub decreases-instances : goal.decreases-instances
decreases-instances l = length l.rest
