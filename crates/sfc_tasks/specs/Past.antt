-- What later answers need of the calls that a table of tasks was told.
use Rattle.std.specs.Prelude.{ℕ, List, map, length, ℤ, Option}
use Rattle.std.specs.List.{range_with_len}
use Rattle.sfc_plant.specs.declared.task.Task.{Task}
use Rattle.sfc_tasks.specs.declared.table.TaskTable.{TaskTable}
use Rattle.sfc_tasks.specs.Calls.{Call, last_instant}
use Rattle.sfc_tasks.specs.Releases.{interval_of, waiting, first_of, beyond_first, capped, overruns}
use Rattle.sfc_tasks.specs.Private.Keeping.{slot_at}

-- of a task: the first release that waits, if one does, how many there are beyond it, and the overruns; counts of 64 bits stay
-- at their greatest value
pub record TaskPast : Type 0 where
  pub since : Option ℤ
  pub more : ℕ
  pub overruns : ℕ

-- how far time has gone on, and of each task
pub record TasksPast : Type 0 where
  pub last : ℤ
  pub each : List TaskPast

abbrev pub task_past : List Task → List Call → ℕ → TaskPast
task_past tasks calls k = record {
  since = first_of (waiting (interval_of tasks k) k calls);
  more = capped (beyond_first (waiting (interval_of tasks k) k calls));
  overruns = overruns (interval_of tasks k) k calls;
}

abbrev pub tasks_past : List Task → List Call → TasksPast
tasks_past tasks calls =
    record { last = last_instant calls; each = map (task_past tasks calls) (range_with_len 0 (length tasks)) }

-- ---- the past that a table keeps

abbrev pub task_in : TaskTable → ℕ → TaskPast
task_in table k =
    let slot = slot_at table.slots k in record { since = slot.since; more = slot.more; overruns = slot.overruns }

unfoldable pub past_in : List Task → TaskTable → TasksPast
past_in tasks table = record { last = table.last; each = map (task_in table) (range_with_len 0 (length tasks)) }
