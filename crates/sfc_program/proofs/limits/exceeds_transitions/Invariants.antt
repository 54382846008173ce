use Rattle.std.proofs.Common.{◌≡◌, ◌+◌, length, map}
use Rattle.sfc_text.specs.Trees.{element_of}
use Rattle.sfc_program.specs.Elements.{transitions_of}
use Rattle.sfc_program.proofs.limits.exceeds_transitions.Given as goal

abbrev pub invariant-elements : goal.invariant-elements
invariant-elements l =
    length (transitions_of (map element_of l.elements)) + l.left ≡ length (transitions_of (map element_of l.rest)) + l.most

abbrev pub decreases-elements : goal.decreases-elements
decreases-elements l = length l.rest
