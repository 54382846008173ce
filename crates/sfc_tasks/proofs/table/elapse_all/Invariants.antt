use Rattle.std.proofs.Common.{◌≡◌, ℕ, ◌<◌, ◌≤◌}
use Rattle.sfc_base.specs.Ticks.{Within}
use Rattle.sfc_tasks.specs.Calls.{single_of}
use Rattle.sfc_tasks.specs.Private.Keeping.{Gains, IsAhead, elapsed_releases, slot_at}
use Rattle.sfc_tasks.proofs.table.elapse_all.Given as goal

abbrev pub invariant-loop-k : goal.invariant-loop-k
invariant-loop-k l = record {
  done : (j : ℕ) → j < l.k → Gains
      (elapsed_releases (slot_at l.initial.slots j).interval l.last l.t (single_of l.singles j))
      (slot_at l.initial.slots j) (slot_at l.slots j);
  ahead : (j : ℕ) → j < l.k → IsAhead (slot_at l.slots j) l.t;
  rest : (j : ℕ) → l.k ≤ j → slot_at l.slots j ≡ slot_at l.initial.slots j;
  ticks : Within l.k l.initial.ticks l.ticks;
}
