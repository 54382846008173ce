-- What later answers need of a history.
use Rattle.std.specs.Prelude.{ℤ}
use Rattle.sfc_plant.specs.Plants.{PlantData}
use Rattle.sfc_tasks.specs.declared.table.TaskTable.{TaskTable}
use Rattle.sfc_tasks.specs.Past as task_table
use Rattle.sfc_tasks.specs.Past.{TasksPast, tasks_past}
use Rattle.sfc_events.specs.History.{History, last_instant}
use Rattle.sfc_instances.specs.declared.instances.Instances.{Instances}
use Rattle.sfc_instances.specs.Past as all_instances
use Rattle.sfc_instances.specs.Past.{InstancesPast, instances_past}
use Rattle.sfc_core.specs.declared.resource.Resource.{Resource}
use Rattle.sfc_core.specs.PlantState.{state_of}
use Rattle.sfc_core.specs.Due.{calls_of}

-- the instant of the latest event; of each variable, each program instance and each task
pub record HistoryPast : Type 0 where
  pub last : ℤ
  pub instances : InstancesPast
  pub tasks : TasksPast

abbrev pub history_past : PlantData → History → HistoryPast
history_past plant h = record {
  last = last_instant h;
  instances = instances_past plant (state_of plant h);
  tasks = tasks_past plant.tasks (calls_of plant h);
}

-- ---- the past that is kept

abbrev pub past_kept : PlantData → Instances → TaskTable → ℤ → HistoryPast
past_kept plant instances tasks last =
    record { last = last; instances = all_instances.past_in plant instances; tasks = task_table.past_in plant.tasks tasks }

-- by a resource
unfoldable pub past_in : Resource → HistoryPast
past_in resource = past_kept resource.plant resource.instances resource.tasks resource.last
