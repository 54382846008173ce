use Rattle.std.proofs.Common.{◌<◌, ◌∷◌, List}
use Rattle.std.specs.Prelude.{IfSome}
use Rattle.sfc_base.specs.Ticks.{Within}
use Rattle.sfc_plant.specs.declared.task.Task.{Task}
use Rattle.sfc_tasks.specs.Calls.{Call, Elapsed}
use Rattle.sfc_tasks.specs.Agreement.{TasksAgree}
use Rattle.sfc_tasks.specs.Private.Keeping.{BestOf, slots_of}
use Rattle.sfc_tasks.proofs.table.TaskTable.best.Given as goal

abbrev pub invariant-loop-i : goal.invariant-loop-i
invariant-loop-i l = record {
  first : (tasks : List Task) (calls : List Call) → TasksAgree tasks l.self calls
      → BestOf (slots_of tasks (Elapsed l.t l.singles ∷ calls)) l.i l.best;
  number : IfSome l.best (λ b. b.number < l.i);
  ticks : Within l.i l.initial.ticks l.ticks;
}
