use Rattle.std.proofs.Common.{◌≡◌, length}
use Rattle.sfc_action.proofs.SingleTimes.{AreSeen, AreSingleTo}
use Rattle.sfc_action.proofs.singles.are_single.Given as goal

abbrev pub invariant-loop-association : goal.invariant-loop-association
invariant-loop-association l = record {
  sized : length l.seen ≡ l.actions;
  seen : AreSeen l.seen l.associations l.association-index;
  single : AreSingleTo l.associations l.association-index;
}
