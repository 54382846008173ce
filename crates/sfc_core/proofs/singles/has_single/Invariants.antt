use Rattle.std.proofs.Common.{◌≡◌, ℕ, ◌<◌, false, slice_index_or}
use Rattle.std.specs.Prelude.{is_some}
use Rattle.sfc_plant.specs.declared.task.Task.{Task}
use Rattle.sfc_core.proofs.singles.has_single.Given as goal

abbrev pub invariant-loop-task : goal.invariant-loop-task
invariant-loop-task l = (k : ℕ) (d : Task) → k < l.task-index → is_some (slice_index_or l.tasks k d).single ≡ false
