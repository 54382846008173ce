-- A scan of a task, instance by instance.
use Rattle.std.specs.Prelude.{ℕ, ◌≡◌, drop, ℤ}
use Rattle.sfc_base.specs.declared.ids.TaskId.{TaskId}
use Rattle.sfc_plant.specs.Plants.{PlantData}
use Rattle.sfc_replay.specs.sfc_instances.declared.instances.Instances.{Instances}
use Rattle.sfc_replay.specs.sfc_instances.Agreement.{InstancesAgree}
use Rattle.sfc_replay.specs.sfc_instances.PlantState.{PlantState, after_task}

-- before instance k, in a scan of the task at t from this state on: what was done so far, from which the others go on
pub record Follows (plant : PlantData) (task : TaskId) (t : ℤ) (state : PlantState) (k : ℕ) (instances : Instances) : Type 0 where
  pub now : PlantState
  pub agrees : InstancesAgree plant instances now
  pub rest : after_task plant task t k (drop k plant.instances) now ≡ after_task plant task t 0 plant.instances state
