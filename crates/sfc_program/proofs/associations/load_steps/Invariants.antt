use Rattle.std.proofs.Common.{◌≡◌, ◌++◌, length, map}
use Rattle.sfc_text.specs.Trees.{element_of}
use Rattle.sfc_variables.specs.Checks.{each}
use Rattle.sfc_program.specs.Elements.{steps_of}
use Rattle.sfc_program.specs.Loading.{step_check}
use Rattle.sfc_program.specs.Built.{step_of}
use Rattle.sfc_program.proofs.associations.load_steps.Given as goal

abbrev pub invariant-elements : goal.invariant-elements
invariant-elements l = record {
  checked : each (step_check l.fn.scope) (steps_of (map element_of l.elements))
      ≡ each (step_check l.fn.scope) (steps_of (map element_of l.rest));
  built : map (step_of l.fn.scope) (steps_of (map element_of l.elements))
      ≡ l.loaded.items ++ map (step_of l.fn.scope) (steps_of (map element_of l.rest));
}

abbrev pub decreases-elements : goal.decreases-elements
decreases-elements l = length l.rest
