use Rattle.std.proofs.Common.{◌≤◌, ◌<◌, ◌/◌, ℕ}
use Rattle.sfc_layout.specs.Skyline.{depth}
use Rattle.sfc_layout.proofs.skyline.Skyline.top.Given as goal

abbrev pub invariant-loop-cell : goal.invariant-loop-cell
invariant-loop-cell l = (k : ℕ) → l.fn.reach.left / 8 ≤ k → k < l.cell → depth l.self k ≤ l.top
