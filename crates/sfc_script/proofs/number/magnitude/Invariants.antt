use Rattle.std.proofs.Common.{◌≡◌, ◌≤◌, length}
use Rattle.sfc_script.specs.Values.{digits_from, limited}
use Rattle.sfc_script.proofs.number.magnitude.Given as goal

abbrev pub invariant-digits : goal.invariant-digits
invariant-digits l = record {
  small : l.number ≤ l.limit;
  value : limited l.limit (digits_from 0 l.word) ≡ limited l.limit (digits_from l.number l.rest);
}

abbrev pub decreases-digits : goal.decreases-digits
decreases-digits l = length l.rest
