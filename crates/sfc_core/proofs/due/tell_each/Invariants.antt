use Rattle.std.proofs.Common.{◌≡◌, ◌≤◌, ◌+◌, List}
use Rattle.sfc_plant.specs.declared.task.Task.{Task}
use Rattle.sfc_tasks.specs.Calls.{Call}
use Rattle.sfc_tasks.specs.Agreement.{TasksAgree, task_total}
use Rattle.sfc_core.specs.Private.Rising.{Rises}
use Rattle.sfc_core.proofs.due.tell_each.Given as goal

abbrev pub invariant-loop-k : goal.invariant-loop-k
invariant-loop-k l = record {
  size : task_total l.tasks ≡ task_total l.initial.tasks;
  low : l.initial.ticks.count ≤ l.ticks.count;
  high : l.ticks.count ≤ l.initial.ticks.count + l.k;
  rises : (all : List Task) (calls : List Call) → TasksAgree all l.initial.tasks calls → Rises all l.t l.before l.after calls l.k l.tasks;
}
