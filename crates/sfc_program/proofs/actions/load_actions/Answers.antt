use Rattle.std.proofs.Common.{◌≡◌, ◌∷◌, List, map, ap, ◌∙◌}
use Rattle.std.proofs.lemmas.Result.{err_from_is_err_and}
use Rattle.sfc_text.specs.declared.tree.Element.{Element}
use Rattle.sfc_text.specs.Trees as trees
use Rattle.sfc_text.specs.Trees.{element_of, ActionTree}
use Rattle.sfc_variables.specs.Checks.{each}
use Rattle.sfc_program.specs.Elements.{actions_of}
use Rattle.sfc_program.specs.Loading.{action_check}
use Rattle.sfc_program.specs.Built.{action_of}
use Rattle.sfc_program.proofs.Turns.{each_on, each_fails, built_on}
use Rattle.sfc_program.proofs.actions.load_actions.Goals as goal

parts : List Element → List ActionTree
parts elements = actions_of (map element_of elements)

pub returns-in_err-add_action : goal.returns-in_err-add_action
unfolding parts
returns-in_err-add_action c =
    let p = err_from_is_err_and c.from_residual.result c.from_residual.ensures.1 in
    let at : parts c.elements.rest.now ≡ trees.action_of c.in-Action.action ∷ parts c.in-Some.after.now =
    ap parts (c.in-Some.ensures.cases.0 ∙ ap (λ e. e ∷ c.in-Some.after.now) c.in-Action.is) in
    rw (p.1, p.2)
    (each_fails (action_check c.args.scope.now) c.in_err-add_action.field-0.0 (each (action_check c.args.scope.now) (parts c.args.elements.now))
    (parts c.elements.rest.now) (parts c.in-Some.after.now) (trees.action_of c.in-Action.action)
    c.elements.invariant.checked at c.in_err-add_action.ensures.loads)

pub elements-preserved-in_ok-add_action : goal.elements-preserved-in_ok-add_action
unfolding parts
elements-preserved-in_ok-add_action c =
    let at : parts c.elements.rest.now ≡ trees.action_of c.in-Action.action ∷ parts c.in-Some.after.now =
    ap parts (c.in-Some.ensures.cases.0 ∙ ap (λ e. e ∷ c.in-Some.after.now) c.in-Action.is) in
    record {
      checked =
          each_on (action_check c.args.scope.now) (each (action_check c.args.scope.now) (parts c.args.elements.now))
          (parts c.elements.rest.now) (parts c.in-Some.after.now) (trees.action_of c.in-Action.action)
          c.elements.invariant.checked at c.in_ok-add_action.ensures.loads.0;
      built =
          built_on (action_of c.args.scope.now) (map (action_of c.args.scope.now) (parts c.args.elements.now))
          c.elements.loaded.items c.add_action.new.loaded.items
          (parts c.elements.rest.now) (parts c.in-Some.after.now) (trees.action_of c.in-Action.action)
          c.elements.invariant.built at c.in_ok-add_action.ensures.added;
    }
