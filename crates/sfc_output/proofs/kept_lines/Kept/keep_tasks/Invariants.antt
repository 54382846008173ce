use Rattle.std.proofs.Common.{◌≡◌, ◌+◌, ◌-◌, length}
use Rattle.sfc_output.specs.Memories.{TasksRight}
use Rattle.sfc_output.proofs.kept_lines.Kept.keep_tasks.Given as goal

abbrev pub invariant-tasks : goal.invariant-tasks
invariant-tasks l = record {
  right : TasksRight l.plant l.initial.self.tasks.items → TasksRight l.plant l.self.tasks.items;
  heads : l.self.heads ≡ l.initial.self.heads;
  programs : l.self.programs ≡ l.initial.self.programs;
}

abbrev pub decreases-tasks : goal.decreases-tasks
decreases-tasks l = l.task + 1 - length l.self.tasks.items
