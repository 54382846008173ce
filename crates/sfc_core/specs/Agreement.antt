-- Which histories a resource agrees with.
use Rattle.sfc_plant.specs.Plants.{PlantData}
use Rattle.sfc_events.specs.History.{History}
use Rattle.sfc_core.specs.declared.resource.Resource.{Resource}
use Rattle.sfc_core.specs.Keeping.{Keeps}

-- the plant that it runs
unfoldable pub plant_of : Resource → PlantData
plant_of resource = resource.plant

-- each answer that it gives is the definition's over the history
unfoldable pub Agrees : Resource → History → Type 0
Agrees resource h = Keeps resource.plant resource.instances resource.tasks resource.last h
