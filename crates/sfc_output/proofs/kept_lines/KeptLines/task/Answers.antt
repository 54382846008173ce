use Rattle.std.proofs.Common.{Option, subst}
use Rattle.sfc_output.specs.declared.kept_lines.Kept.{Kept}
use Rattle.sfc_output.specs.Memories.{Fits, TasksRight, tasks_in}
use Rattle.sfc_output.proofs.kept_lines.KeptLines.task.Goals as goal

pub returns-in-Some : goal.returns-in-Some
unfolding Fits
returns-in-Some c plant fits = c.task.ensures plant (subst (λ (kept : Option Kept). TasksRight plant (tasks_in kept)) c.in-Some.is fits.0)
