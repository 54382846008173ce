-- What contracts see of a plant, and what holds of it.
use Rattle.sfc_plant.specs.declared.plant.Plant.TheInside.{Inside}
use Rattle.sfc_plant.specs.Plants.{PlantData}
use Rattle.sfc_plant.specs.Sound.{IsPlant}
use Rattle.sfc_plant.specs.PlantParts.{plant_under, AreNamed}

abbrev pub plant_data : Inside → PlantData
plant_data p = plant_under p.titles p.parts

-- it is one that can run, and each table has the names, or the numbers, of its list
pub record IsWhole (p : Inside) : Type 0 where
  pub sound : IsPlant (plant_data p)
  pub named : AreNamed p.parts
