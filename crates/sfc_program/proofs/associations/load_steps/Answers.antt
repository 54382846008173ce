use Rattle.std.proofs.Common.{◌≡◌, ◌∷◌, List, map, ap, ◌∙◌}
use Rattle.std.proofs.lemmas.Result.{err_from_is_err_and}
use Rattle.sfc_text.specs.declared.tree.Element.{Element}
use Rattle.sfc_text.specs.declared.tree.Step.{Step}
use Rattle.sfc_text.specs.Trees.{element_of}
use Rattle.sfc_variables.specs.Checks.{each}
use Rattle.sfc_program.specs.Elements.{steps_of}
use Rattle.sfc_program.specs.Loading.{step_check}
use Rattle.sfc_program.specs.Built.{step_of}
use Rattle.sfc_program.proofs.Turns.{each_on, each_fails, built_on}
use Rattle.sfc_program.proofs.associations.load_steps.Goals as goal

parts : List Element → List Step
parts elements = steps_of (map element_of elements)

pub returns-in_err-add_step : goal.returns-in_err-add_step
unfolding parts
returns-in_err-add_step c =
    let p = err_from_is_err_and c.from_residual.result c.from_residual.ensures.1 in
    let at : parts c.elements.rest.now ≡ c.in-Step.step ∷ parts c.in-Some.after.now =
    ap parts (c.in-Some.ensures.cases.0 ∙ ap (λ e. e ∷ c.in-Some.after.now) c.in-Step.is) in
    rw (p.1, p.2)
    (each_fails (step_check c.args.scope.now) c.in_err-add_step.field-0.0 (each (step_check c.args.scope.now) (parts c.args.elements.now))
    (parts c.elements.rest.now) (parts c.in-Some.after.now) c.in-Step.step
    c.elements.invariant.checked at c.in_err-add_step.ensures.loads)

pub elements-preserved-in_ok-add_step : goal.elements-preserved-in_ok-add_step
unfolding parts
elements-preserved-in_ok-add_step c =
    let at : parts c.elements.rest.now ≡ c.in-Step.step ∷ parts c.in-Some.after.now =
    ap parts (c.in-Some.ensures.cases.0 ∙ ap (λ e. e ∷ c.in-Some.after.now) c.in-Step.is) in
    record {
      checked =
          each_on (step_check c.args.scope.now) (each (step_check c.args.scope.now) (parts c.args.elements.now))
          (parts c.elements.rest.now) (parts c.in-Some.after.now) c.in-Step.step
          c.elements.invariant.checked at c.in_ok-add_step.ensures.loads.0;
      built =
          built_on (step_of c.args.scope.now) (map (step_of c.args.scope.now) (parts c.args.elements.now))
          c.elements.loaded.items c.add_step.new.loaded.items
          (parts c.elements.rest.now) (parts c.in-Some.after.now) c.in-Step.step
          c.elements.invariant.built at c.in_ok-add_step.ensures.added;
    }
