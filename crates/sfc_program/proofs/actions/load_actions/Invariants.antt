use Rattle.std.proofs.Common.{◌≡◌, ◌++◌, length, map}
use Rattle.sfc_text.specs.Trees.{element_of}
use Rattle.sfc_variables.specs.Checks.{each}
use Rattle.sfc_program.specs.Elements.{actions_of}
use Rattle.sfc_program.specs.Loading.{action_check}
use Rattle.sfc_program.specs.Built.{action_of}
use Rattle.sfc_program.proofs.actions.load_actions.Given as goal

abbrev pub invariant-elements : goal.invariant-elements
invariant-elements l = record {
  checked : each (action_check l.fn.scope) (actions_of (map element_of l.elements))
      ≡ each (action_check l.fn.scope) (actions_of (map element_of l.rest));
  built : map (action_of l.fn.scope) (actions_of (map element_of l.elements))
      ≡ l.loaded.items ++ map (action_of l.fn.scope) (actions_of (map element_of l.rest));
}

abbrev pub decreases-elements : goal.decreases-elements
decreases-elements l = length l.rest
