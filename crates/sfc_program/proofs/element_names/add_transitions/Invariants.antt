use Rattle.std.proofs.Common.{◌≡◌, length, map}
use Rattle.sfc_text.specs.Trees.{element_of}
use Rattle.sfc_program.specs.Elements.{transition_names}
use Rattle.sfc_program.specs.Loading.{distinct_check}
use Rattle.sfc_program.proofs.element_names.add_transitions.Given as goal

abbrev pub invariant-elements : goal.invariant-elements
invariant-elements l =
    distinct_check l.initial.space (transition_names (map element_of l.elements))
    ≡ distinct_check l.space (transition_names (map element_of l.rest))

abbrev pub decreases-elements : goal.decreases-elements
decreases-elements l = length l.rest
