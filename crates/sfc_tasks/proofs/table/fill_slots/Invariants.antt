use Rattle.std.proofs.Common.{◌≡◌, ℕ, ◌<◌, slice_get}
use Rattle.sfc_tasks.specs.Releases.{interval_of}
use Rattle.sfc_tasks.specs.Pick.{priority_in}
use Rattle.sfc_tasks.specs.Private.Keeping.{empty_slot, slot_at}
use Rattle.sfc_tasks.proofs.table.fill_slots.Given as goal

abbrev pub invariant-loop-k : goal.invariant-loop-k
invariant-loop-k l = record {
  done : (j : ℕ) → j < l.k →
      slot_at l.slots j ≡ empty_slot (interval_of l.tasks j) (priority_in (slice_get l.tasks j));
}
