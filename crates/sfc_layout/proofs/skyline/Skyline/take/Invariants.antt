use Rattle.std.proofs.Common.{◌≤◌, ◌<◌, ◌/◌, ℕ, vec_len}
use Rattle.sfc_layout.specs.Skyline.{depth}
use Rattle.sfc_layout.proofs.skyline.Skyline.take.Given as goal

abbrev pub invariant-loop-cell : goal.invariant-loop-cell
invariant-loop-cell l = record {
  len : l.end ≤ vec_len l.self.cells;
  taken : (k : ℕ) → l.fn.reach.left / 8 ≤ k → k < l.cell → l.bottom ≤ depth l.self k;
  kept : (k : ℕ) → depth l.initial.self k ≤ depth l.self k;
}
