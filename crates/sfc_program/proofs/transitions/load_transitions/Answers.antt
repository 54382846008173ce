use Rattle.std.proofs.Common.{◌≡◌, ◌∷◌, List, map, ap, ◌∙◌}
use Rattle.std.proofs.lemmas.Result.{err_from_is_err_and}
use Rattle.sfc_text.specs.declared.tree.Element.{Element}
use Rattle.sfc_text.specs.Trees as trees
use Rattle.sfc_text.specs.Trees.{element_of, TransitionTree}
use Rattle.sfc_variables.specs.Checks.{each}
use Rattle.sfc_program.specs.Elements.{transitions_of}
use Rattle.sfc_program.specs.Loading.{transition_check}
use Rattle.sfc_program.specs.Built.{transition_of}
use Rattle.sfc_program.proofs.Turns.{each_on, each_fails, built_on}
use Rattle.sfc_program.proofs.transitions.load_transitions.Goals as goal

parts : List Element → List TransitionTree
parts elements = transitions_of (map element_of elements)

pub returns-in_err-add_transition : goal.returns-in_err-add_transition
unfolding parts
returns-in_err-add_transition c =
    let p = err_from_is_err_and c.from_residual.result c.from_residual.ensures.1 in
    let at : parts c.elements.rest.now ≡ trees.transition_of c.in-Transition.transition ∷ parts c.in-Some.after.now =
    ap parts (c.in-Some.ensures.cases.0 ∙ ap (λ e. e ∷ c.in-Some.after.now) c.in-Transition.is) in
    rw (p.1, p.2)
    (each_fails (transition_check c.args.scope.now) c.in_err-add_transition.field-0.0 (each (transition_check c.args.scope.now) (parts c.args.elements.now))
    (parts c.elements.rest.now) (parts c.in-Some.after.now) (trees.transition_of c.in-Transition.transition)
    c.elements.invariant.checked at c.in_err-add_transition.ensures.loads)

pub elements-preserved-in_ok-add_transition : goal.elements-preserved-in_ok-add_transition
unfolding parts
elements-preserved-in_ok-add_transition c =
    let at : parts c.elements.rest.now ≡ trees.transition_of c.in-Transition.transition ∷ parts c.in-Some.after.now =
    ap parts (c.in-Some.ensures.cases.0 ∙ ap (λ e. e ∷ c.in-Some.after.now) c.in-Transition.is) in
    record {
      checked =
          each_on (transition_check c.args.scope.now) (each (transition_check c.args.scope.now) (parts c.args.elements.now))
          (parts c.elements.rest.now) (parts c.in-Some.after.now) (trees.transition_of c.in-Transition.transition)
          c.elements.invariant.checked at c.in_ok-add_transition.ensures.loads.0;
      built =
          built_on (transition_of c.args.scope.now) (map (transition_of c.args.scope.now) (parts c.args.elements.now))
          c.elements.loaded.items c.add_transition.new.loaded.items
          (parts c.elements.rest.now) (parts c.in-Some.after.now) (trees.transition_of c.in-Transition.transition)
          c.elements.invariant.built at c.in_ok-add_transition.ensures.added;
    }
