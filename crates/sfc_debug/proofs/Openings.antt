-- Openings of debuggers.
use Rattle.sfc_plant.specs.Plants.{PlantData}
use Rattle.sfc_core.proofs.OpeningsMade as core
use Rattle.sfc_debug.specs.declared.opening.DebugOpening.{DebugOpening}
use Rattle.sfc_debug.specs.Openings.{IsOpeningFor}

-- that one was made for a plant has at most one proof
pub opening_prop : (plant : PlantData) (opening : DebugOpening) → IsProp (IsOpeningFor plant opening)
unfolding IsOpeningFor
opening_prop plant opening = core.made_prop plant opening.resource
