use Rattle.std.proofs.Common.{◌≡◌, ℕ, vec_len}
use Rattle.sfc_layout.specs.Skyline.{depth}
use Rattle.sfc_layout.proofs.skyline.Skyline.widen.Given as goal

abbrev pub invariant-loop : goal.invariant-loop
invariant-loop l = record {
  len : vec_len l.self.cells ≡ l.counter;
  kept : (k : ℕ) → depth l.self k ≡ depth l.initial.self k;
}
