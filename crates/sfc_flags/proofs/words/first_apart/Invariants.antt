use Rattle.std.proofs.Common.{◌≡◌, ℕ, ◌<◌, ◌≤◌, ◌-◌, length, slice_index}
use Rattle.sfc_base.specs.Ticks.{Within}
use Rattle.sfc_flags.specs.Private.Bits.{apart}
use Rattle.sfc_flags.proofs.words.first_apart.Given as goal

abbrev pub invariant-alike : goal.invariant-alike
invariant-alike l = record {
  after : l.start ≤ l.k;
  within : l.k ≤ length l.words;
  none : (j : ℕ) → l.start ≤ j → j < l.k → slice_index (apart l.words l.other) j ≡ 0;
  ticks : Within (l.k - l.start) l.fn.ticks l.ticks;
}

abbrev pub decreases-alike : goal.decreases-alike
decreases-alike l = length l.words - l.k
