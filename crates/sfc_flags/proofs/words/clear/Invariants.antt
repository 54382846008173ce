use Rattle.std.proofs.Common.{◌≡◌, ℕ, ◌<◌, get_or}
use Rattle.sfc_base.specs.Ticks.{Within}
use Rattle.sfc_flags.proofs.words.clear.Given as goal

abbrev pub invariant-loop-k : goal.invariant-loop-k
invariant-loop-k l = record {
  done : (j : ℕ) → j < l.k → get_or l.words j 0 ≡ 0;
  ticks : Within l.k l.initial.ticks l.ticks;
}
