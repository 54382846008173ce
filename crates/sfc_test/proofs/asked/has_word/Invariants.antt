use Rattle.std.proofs.Common.{◌≡◌, length}
use Rattle.sfc_test.specs.Cases.{has_word}
use Rattle.sfc_test.proofs.asked.has_word.Given as goal

abbrev pub invariant-bytes : goal.invariant-bytes
invariant-bytes l = has_word l.word l.rest ≡ has_word l.word l.bytes

abbrev pub decreases-bytes : goal.decreases-bytes
decreases-bytes l = length l.rest
