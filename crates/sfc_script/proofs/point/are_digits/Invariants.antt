use Rattle.std.proofs.Common.{◌≡◌, length}
use Rattle.sfc_script.specs.Points.{are_digits}
use Rattle.sfc_script.proofs.point.are_digits.Given as goal

abbrev pub invariant-digits : goal.invariant-digits
invariant-digits l = are_digits l.word ≡ are_digits l.rest

abbrev pub decreases-digits : goal.decreases-digits
decreases-digits l = length l.rest
