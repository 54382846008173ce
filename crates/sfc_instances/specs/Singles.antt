-- What the SINGLE of tasks reads (2.7.2).
use Rattle.std.specs.Prelude.{Bool, false, List, map, Option, Some, None}
use Rattle.sfc_base.specs.declared.references.GlobalId.{GlobalId}
use Rattle.sfc_base.specs.Values.{truth}
use Rattle.sfc_plant.specs.declared.task.Task.{Task}
use Rattle.sfc_plant.specs.Plants.{PlantData}
use Rattle.sfc_instance.specs.sfc_image.Changes.{Change}
use Rattle.sfc_instance.specs.sfc_image.Values.{value_of}

-- what the SINGLE of a task reads; FALSE where it has none
abbrev pub single_in : PlantData → List Change → Option GlobalId → Bool
single_in plant changes None = false
single_in plant changes (Some id) = truth (value_of plant changes id.0)

-- of each task, by number
abbrev pub singles_in : PlantData → List Change → List Bool
singles_in plant changes = map (λ (task : Task). single_in plant changes task.single) plant.tasks
