use Rattle.std.proofs.Common.{◌≡◌, length}
use Rattle.sfc_debug.proofs.break_condition.are_same.Given as goal

-- what is left is the same exactly where all is
abbrev pub invariant-conditions : goal.invariant-conditions
invariant-conditions l = record {
  same : l.rest ≡ l.others → l.table ≡ l.other;
  other : l.table ≡ l.other → l.rest ≡ l.others;
}

abbrev pub decreases-conditions : goal.decreases-conditions
decreases-conditions l = length l.rest
