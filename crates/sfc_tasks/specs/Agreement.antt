-- Which calls a `TaskTable` agrees with.
use Rattle.std.specs.Prelude.{ℕ, ◌≡◌, ◌<◌, List, length, slice_get}
use Rattle.sfc_plant.specs.declared.task.Task.{Task}
use Rattle.sfc_tasks.specs.declared.task_slot.TaskSlot.{TaskSlot}
use Rattle.sfc_tasks.specs.declared.table.TaskTable.{TaskTable}
use Rattle.sfc_tasks.specs.Calls.{Call, last_instant}
use Rattle.sfc_tasks.specs.Releases.{interval_of, waiting, overruns}
use Rattle.sfc_tasks.specs.Pick.{priority_in}
use Rattle.sfc_tasks.specs.Private.Keeping.{slot_at, HoldsReleases}

-- how many tasks it is for
abbrev pub task_total : TaskTable → ℕ
task_total table = table.count

-- what is kept of task k is what these calls give
pub record SlotAgrees (tasks : List Task) (calls : List Call) (k : ℕ) (slot : TaskSlot) : Type 0 where
  pub interval : slot.interval ≡ interval_of tasks k
  pub priority : slot.priority ≡ priority_in (slice_get tasks k)
  pub releases : HoldsReleases slot (waiting (interval_of tasks k) k calls)
  pub overruns : slot.overruns ≡ overruns (interval_of tasks k) k calls

pub record Keeps (tasks : List Task) (table : TaskTable) (calls : List Call) : Type 0 where
  pub size : table.count ≡ length tasks
  pub last : table.last ≡ last_instant calls
  pub each : (k : ℕ) → k < length tasks → SlotAgrees tasks calls k (slot_at table.slots k)

-- after these calls, the newest first, all answers are those of the definitions
unfoldable pub TasksAgree : List Task → TaskTable → List Call → Type 0
TasksAgree tasks table calls = Keeps tasks table calls
