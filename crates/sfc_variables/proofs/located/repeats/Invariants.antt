use Rattle.std.proofs.Common.{◌≡◌, length}
use Rattle.sfc_variables.specs.Locations.{repeats}
use Rattle.sfc_variables.proofs.located.repeats.Given as goal

abbrev pub invariant-locations : goal.invariant-locations
invariant-locations l = repeats l.locations ≡ repeats l.rest

abbrev pub decreases-locations : goal.decreases-locations
decreases-locations l = length l.rest
