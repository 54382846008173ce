use Rattle.std.proofs.Common.{◌≡◌, ◌↔◌}
use Rattle.sfc_flags.proofs.Same.{AreSame}
use Rattle.sfc_flags.proofs.words.are_same.Given as goal

abbrev pub invariant-loop-k : goal.invariant-loop-k
invariant-loop-k l = record {
  apart : (l.apart ≡ 0) ↔ AreSame l.words l.other l.k;
}
