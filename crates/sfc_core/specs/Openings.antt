-- What an opening stands for.
use Rattle.std.specs.Prelude.{◌≡◌, length}
use Rattle.sfc_plant.specs.Plants.{PlantData}
use Rattle.sfc_tasks.specs.Agreement.{task_total}
use Rattle.sfc_events.specs.History.{History}
use Rattle.sfc_instances.specs.Agreement.{AreInstancesOf}
use Rattle.sfc_core.specs.declared.opening.Opening.{Opening}
use Rattle.sfc_core.specs.Keeping.{Keeps}
use Rattle.sfc_core.specs.Past.{HistoryPast, past_kept}

-- it was made for the plant, and what it has is what some history leaves
pub record IsMade (plant : PlantData) (opening : Opening) : Type 0 where
  pub whole : AreInstancesOf plant opening.instances
  pub tasks_sized : task_total opening.tasks ≡ length plant.tasks
  pub some : ∥ ((h : History) × Keeps plant opening.instances opening.tasks opening.last h) ∥₁

unfoldable pub IsOpeningFor : PlantData → Opening → Type 0
IsOpeningFor plant opening = IsMade plant opening

-- the past that it has
unfoldable pub past_of : PlantData → Opening → HistoryPast
past_of plant opening = past_kept plant opening.instances opening.tasks opening.last
