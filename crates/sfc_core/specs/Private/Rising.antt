-- Which SINGLE rises.
use Rattle.std.specs.Prelude.{ℕ, ◌≡◌, Bool, List, drop, ℤ}
use Rattle.sfc_plant.specs.declared.task.Task.{Task}
use Rattle.sfc_tasks.specs.Calls.{Call}
use Rattle.sfc_tasks.specs.Agreement.{TasksAgree}
use Rattle.sfc_tasks.specs.declared.table.TaskTable.{TaskTable}
use Rattle.sfc_core.specs.Due.{with_rises}

-- before task k: what the tasks were told so far, from which the others go on
pub record Rises (all : List Task) (t : ℤ) (before after : List Bool) (calls : List Call) (k : ℕ) (tasks : TaskTable) : Type 0 where
  pub now : List Call
  pub agrees : TasksAgree all tasks now
  pub rest : with_rises t k (drop k before) (drop k after) now ≡ with_rises t 0 before after calls
