-- What a resource keeps of a history.
use Rattle.std.specs.Prelude.{◌≡◌, ℤ}
use Rattle.sfc_plant.specs.Plants.{PlantData}
use Rattle.sfc_tasks.specs.declared.table.TaskTable.{TaskTable}
use Rattle.sfc_tasks.specs.Agreement.{TasksAgree}
use Rattle.sfc_events.specs.History.{History, last_instant}
use Rattle.sfc_instances.specs.declared.instances.Instances.{Instances}
use Rattle.sfc_instances.specs.Agreement.{InstancesAgree}
use Rattle.sfc_core.specs.PlantState.{state_of}
use Rattle.sfc_core.specs.Due.{calls_of}

-- the instant of its latest event, its variables and program instances, and its tasks are those that the history gives
pub record Keeps (plant : PlantData) (instances : Instances) (tasks : TaskTable) (last : ℤ) (h : History) : Type 0 where
  pub instant : last ≡ last_instant h
  pub instances_agree : InstancesAgree plant instances (state_of plant h)
  pub tasked : TasksAgree plant.tasks tasks (calls_of plant h)
