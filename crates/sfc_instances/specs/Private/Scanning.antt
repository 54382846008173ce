-- A scan of a task.
use Rattle.std.specs.Prelude.{ℕ, ◌≡◌, ◌+◌, drop, ℤ}
use Rattle.sfc_base.specs.declared.ids.TaskId.{TaskId}
use Rattle.sfc_plant.specs.Plants.{PlantData}
use Rattle.sfc_instance.specs.declared.scan_end.ScanEnd.TheVariants.{Ran, Faulted, Skipped}
use Rattle.sfc_instances.specs.declared.bits.Bits.{Bits}
use Rattle.sfc_instances.specs.declared.instances.Instances.{Instances}
use Rattle.sfc_instances.specs.Agreement.{InstancesAgree}
use Rattle.sfc_instances.specs.Ends.{bits_of}
use Rattle.sfc_instances.specs.PlantState.{PlantState, after_task}

-- before instance k, in a scan of the task at t from this state on: what was done so far, from which the others go on
pub record Follows (plant : PlantData) (task : TaskId) (t : ℤ) (state : PlantState) (k : ℕ) (instances : Instances)
    (bits : Bits) : Type 0 where
  pub now : PlantState
  pub agrees : InstancesAgree plant instances now
  pub rest : after_task plant task t k (drop k plant.instances) now ≡ after_task plant task t 0 plant.instances state
  pub ran :
      bits.ran.bits + bits_of Ran plant task t k (drop k plant.instances) now
      ≡ bits_of Ran plant task t 0 plant.instances state
  pub faulted :
      bits.faulted.bits + bits_of Faulted plant task t k (drop k plant.instances) now
      ≡ bits_of Faulted plant task t 0 plant.instances state
  pub skipped :
      bits.skipped.bits + bits_of Skipped plant task t k (drop k plant.instances) now
      ≡ bits_of Skipped plant task t 0 plant.instances state
