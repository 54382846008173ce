use Rattle.std.proofs.Common.{◌≡◌, ◌++◌, length, flat_map}
use Rattle.sfc_plant.specs.Image.{locals_of, locations_of}
use Rattle.sfc_load.proofs.image_check.add_local_locations.Given as goal

abbrev pub invariant-instances : goal.invariant-instances
invariant-instances l = l.initial.locations.items ++ locations_of (flat_map (locals_of l.types) l.instances)
    ≡ l.locations.items ++ locations_of (flat_map (locals_of l.types) l.rest)

abbrev pub decreases-instances : goal.decreases-instances
decreases-instances l = length l.rest
