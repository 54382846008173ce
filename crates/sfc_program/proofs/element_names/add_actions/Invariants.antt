use Rattle.std.proofs.Common.{◌≡◌, ◌++◌, length, map}
use Rattle.sfc_text.specs.Trees.{element_of}
use Rattle.sfc_program.specs.Elements.{action_names}
use Rattle.sfc_program.specs.Loading.{distinct_check}
use Rattle.sfc_program.proofs.element_names.add_actions.Given as goal

abbrev pub invariant-elements : goal.invariant-elements
invariant-elements l = record {
  checked : distinct_check l.initial.space (action_names (map element_of l.elements))
      ≡ distinct_check l.space (action_names (map element_of l.rest));
  built : action_names (map element_of l.elements) ≡ l.actions ++ action_names (map element_of l.rest);
  named : l.space ≡ l.initial.space ++ l.actions;
}

abbrev pub decreases-elements : goal.decreases-elements
decreases-elements l = length l.rest
