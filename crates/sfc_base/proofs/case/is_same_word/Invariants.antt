use Rattle.std.proofs.Common.{◌≡◌, length}
use Rattle.sfc_base.specs.Case as names
use Rattle.sfc_base.proofs.case.is_same_word.Given as goal

abbrev pub invariant-all : goal.invariant-all
invariant-all l = names.same_word l.left_rest l.right_rest ≡ names.same_word l.left l.right

abbrev pub decreases-all : goal.decreases-all
decreases-all l = length l.left_rest
