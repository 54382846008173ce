use Rattle.std.proofs.Common.{◌≤◌, ◌<◌, ℕ}
use Rattle.sfc_layout.specs.Skyline.{depth}
use Rattle.sfc_layout.proofs.skyline.Skyline.lowest.Given as goal

abbrev pub invariant-loop-depth : goal.invariant-loop-depth
invariant-loop-depth l = (k : ℕ) → k < l.depth-index → depth l.self k ≤ l.lowest
