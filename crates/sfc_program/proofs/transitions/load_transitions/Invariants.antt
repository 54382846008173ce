use Rattle.std.proofs.Common.{◌≡◌, ◌++◌, length, map}
use Rattle.sfc_text.specs.Trees.{element_of}
use Rattle.sfc_variables.specs.Checks.{each}
use Rattle.sfc_program.specs.Elements.{transitions_of}
use Rattle.sfc_program.specs.Loading.{transition_check}
use Rattle.sfc_program.specs.Built.{transition_of}
use Rattle.sfc_program.proofs.transitions.load_transitions.Given as goal

abbrev pub invariant-elements : goal.invariant-elements
invariant-elements l = record {
  checked : each (transition_check l.fn.scope) (transitions_of (map element_of l.elements))
      ≡ each (transition_check l.fn.scope) (transitions_of (map element_of l.rest));
  built : map (transition_of l.fn.scope) (transitions_of (map element_of l.elements))
      ≡ l.loaded.items ++ map (transition_of l.fn.scope) (transitions_of (map element_of l.rest));
}

abbrev pub decreases-elements : goal.decreases-elements
decreases-elements l = length l.rest
