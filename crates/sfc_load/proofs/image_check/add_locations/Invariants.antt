use Rattle.std.proofs.Common.{◌≡◌, ◌++◌, length}
use Rattle.sfc_plant.specs.Image.{locations_of}
use Rattle.sfc_load.proofs.image_check.add_locations.Given as goal

abbrev pub invariant-variables : goal.invariant-variables
invariant-variables l = l.initial.locations.items ++ locations_of l.variables ≡ l.locations.items ++ locations_of l.rest

abbrev pub decreases-variables : goal.decreases-variables
decreases-variables l = length l.rest
