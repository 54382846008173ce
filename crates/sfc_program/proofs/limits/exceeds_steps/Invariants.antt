use Rattle.std.proofs.Common.{◌≡◌, ◌+◌, length, map}
use Rattle.sfc_text.specs.Trees.{element_of}
use Rattle.sfc_program.specs.Elements.{steps_of}
use Rattle.sfc_program.proofs.limits.exceeds_steps.Given as goal

abbrev pub invariant-elements : goal.invariant-elements
invariant-elements l =
    length (steps_of (map element_of l.elements)) + l.left ≡ length (steps_of (map element_of l.rest)) + l.most

abbrev pub decreases-elements : goal.decreases-elements
decreases-elements l = length l.rest
