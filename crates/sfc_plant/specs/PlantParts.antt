-- What contracts see of a plant's parts, and what holds of its tables.
use Rattle.std.specs.Prelude.{◌≡◌, length, map}
use Rattle.sfc_plant.specs.declared.parts.Parts.{Parts}
use Rattle.sfc_plant.specs.declared.titles.Titles.{Titles}
use Rattle.sfc_plant.specs.Plants.{PlantData}
use Rattle.sfc_plant.specs.Image.{starts_from}

-- the plant of these names and parts
abbrev pub plant_under : Titles → Parts → PlantData
plant_under titles parts = record {
  configuration = titles.configuration;
  resource = titles.resource;
  processor = titles.processor;
  globals = parts.declared.globals;
  tasks = parts.declared.tasks;
  types = parts.declared.types;
  instances = parts.instances;
}

-- each table has the names, or the numbers, of its list
pub record AreNamed (parts : Parts) : Type 0 where
  pub tasks : parts.declared.task_names ≡ map (λ t. t.name) parts.declared.tasks
  pub types : parts.declared.type_names ≡ map (λ t. t.name) parts.declared.types
  pub instances : parts.instance_names ≡ map (λ i. i.name) parts.instances
  pub starts : parts.starts ≡ starts_from (length parts.declared.globals) parts.declared.types parts.instances
