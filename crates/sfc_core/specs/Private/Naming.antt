-- Which tasks and program instances an event names.
use Rattle.std.specs.Prelude.{ℕ, ◌≡◌, ◌<◌, ⊤, length, List, Option, Some, None}
use Rattle.sfc_base.specs.declared.ids.TaskId.{TaskId}
use Rattle.sfc_plant.specs.Plants.{PlantData}
use Rattle.sfc_instances.specs.sfc_image.Changes.{Change}
use Rattle.sfc_instances.specs.sfc_image.Answers.{value_fault, release_fault}
use Rattle.sfc_events.specs.declared.event.Event.{Event}
use Rattle.sfc_events.specs.declared.event.Event.TheVariants.{Input, Force, Release, Reset}
use Rattle.sfc_events.specs.Events.{scanned_task}

-- it is one of so many tasks, if there is one
abbrev pub IsSomeTask : ℕ → Option TaskId → Type 0
IsSomeTask tasks None = ⊤
IsSomeTask tasks (Some task) = task.0 < tasks

-- it scans one of so many tasks, if any
abbrev pub NamesTask : ℕ → Event → Type 0
NamesTask tasks event = IsSomeTask tasks (scanned_task event)

-- it resets one of so many program instances, if any
abbrev pub NamesInstance : ℕ → Event → Type 0
NamesInstance instances (Reset p) = p.0 < instances
NamesInstance instances _ = ⊤

-- those of the plant
pub record IsKnown (plant : PlantData) (event : Event) : Type 0 where
  pub task : NamesTask (length plant.tasks) event
  pub instance : NamesInstance (length plant.instances) event

-- the variables take what the event does with them
abbrev pub IsTaken : PlantData → List Change → Event → Type 0
IsTaken plant changes (Input id v) = value_fault plant id v ≡ None
IsTaken plant changes (Force id v) = value_fault plant id v ≡ None
IsTaken plant changes (Release id) = release_fault plant changes id ≡ None
IsTaken plant changes _ = ⊤
