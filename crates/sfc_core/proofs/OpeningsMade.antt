-- An opening is made for a plant in one way at most, so that can be a ghost field.
use denote.Struct.Props.{props}
use Rattle.sfc_plant.specs.Plants.{PlantData}
use Rattle.sfc_instances.proofs.OfOnePlant.{instances_prop}
use Rattle.sfc_core.specs.declared.opening.Opening.{Opening}
use Rattle.sfc_core.specs.Openings.{IsOpeningFor}

pub made_prop : (plant : PlantData) (opening : Opening) → IsProp (IsOpeningFor plant opening)
unfolding IsOpeningFor
made_prop plant opening = hlevel (props, instances_prop plant opening.instances)
