use Rattle.std.proofs.Common.{◌≡◌, ℕ, List, ◌++◌, length}
use Rattle.sfc_editing.specs.Fronts.{first_lines}
use Rattle.sfc_editing.proofs.back.front_of.Given as goal

abbrev pub invariant-bytes : goal.invariant-bytes
invariant-bytes l = (front : List ℕ) × (l.fn.text ≡ front ++ l.rest) × (front ++ first_lines l.left l.rest ≡ first_lines l.fn.count l.fn.text)

abbrev pub decreases-bytes : goal.decreases-bytes
decreases-bytes l = length l.rest
