use Rattle.std.proofs.Common.{◌≡◌, length}
use Rattle.sfc_tokens.specs.Tokens.{kinds}
use Rattle.sfc_names.proofs.sameness.are_same_kinds.Given as goal

abbrev pub invariant-all : goal.invariant-all
invariant-all l = kinds l.firsts ≡ kinds l.seconds → kinds l.left ≡ kinds l.right

abbrev pub decreases-all : goal.decreases-all
decreases-all l = length l.firsts
