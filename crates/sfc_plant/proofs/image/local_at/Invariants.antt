use Rattle.std.proofs.Common.{◌≡◌, ◌+◌, ◌≤◌, length, slice_get}
use Rattle.sfc_base.specs.declared.limits.TheConstants.{INSTANCES}
use Rattle.sfc_plant.specs.Image.{locals_from}
use Rattle.sfc_plant.proofs.image.local_at.Given as goal

abbrev pub invariant-instances : goal.invariant-instances
invariant-instances l = record {
  same : slice_get (locals_from l.types 0 l.instances) l.place ≡ slice_get (locals_from l.types l.number l.rest) l.left;
  few : l.number + length l.rest ≤ INSTANCES;
}

abbrev pub decreases-instances : goal.decreases-instances
decreases-instances l = length l.rest
