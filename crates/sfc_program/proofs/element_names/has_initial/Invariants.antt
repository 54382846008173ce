use Rattle.std.proofs.Common.{◌≡◌, length, map}
use Rattle.std.specs.List.{list_any}
use Rattle.sfc_text.specs.Trees.{element_of}
use Rattle.sfc_program.specs.Elements.{steps_of}
use Rattle.sfc_program.proofs.element_names.has_initial.Given as goal

abbrev pub invariant-elements : goal.invariant-elements
invariant-elements l =
    list_any (λ s. s.is_initial) (steps_of (map element_of l.elements)) ≡ list_any (λ s. s.is_initial) (steps_of (map element_of l.rest))

abbrev pub decreases-elements : goal.decreases-elements
decreases-elements l = length l.rest
