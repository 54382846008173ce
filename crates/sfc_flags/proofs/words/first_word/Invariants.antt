use Rattle.std.proofs.Common.{◌≡◌, ℕ, ◌<◌, ◌≤◌, ◌-◌, length, slice_index}
use Rattle.sfc_base.specs.Ticks.{Within}
use Rattle.sfc_flags.proofs.words.first_word.Given as goal

abbrev pub invariant-blank : goal.invariant-blank
invariant-blank l = record {
  after : l.start ≤ l.k;
  within : l.k ≤ length l.words;
  none : (j : ℕ) → l.start ≤ j → j < l.k → slice_index l.words j ≡ 0;
  ticks : Within (l.k - l.start) l.fn.ticks l.ticks;
}

abbrev pub decreases-blank : goal.decreases-blank
decreases-blank l = length l.words - l.k
