use Rattle.std.proofs.Common.{◌≡◌, ◌∷◌, ◌++◌, [], List, ℕ, length, map, ap, ◌∙◌}
use Rattle.std.proofs.lemmas.Result.{err_from_is_err_and}
use Rattle.sfc_text.specs.declared.tree.Element.{Element}
use Rattle.sfc_text.specs.Trees.{element_of}
use Rattle.sfc_program.specs.Elements.{step_names}
use Rattle.sfc_program.specs.Loading.{name_check, distinct_check}
use Rattle.sfc_program.proofs.Turns.{turn_on, turn_fails, turn_ends, put_on, put_both, put_ends, none_left}
use Rattle.sfc_program.proofs.Distinct.{not_behind}
use Rattle.sfc_program.proofs.element_names.add_steps.Goals as goal

names_in : List Element → List (List ℕ)
names_in elements = step_names (map element_of elements)

pub returns-in_err-add_to_kind-clause-loads : goal.returns-in_err-add_to_kind-clause-loads
unfolding names_in
returns-in_err-add_to_kind-clause-loads c =
    let p = err_from_is_err_and c.from_residual.result c.from_residual.ensures.1 in
    let at : names_in c.elements.rest.now ≡ c.in-Step.step.name ∷ names_in c.in-Some.after.now =
    ap names_in (c.in-Some.ensures.cases.0 ∙ ap (λ e. e ∷ c.in-Some.after.now) c.in-Step.is) in
    rw (p.1, p.2) (turn_fails name_check c.in_err-add_to_kind.field-0.0
    (distinct_check c.args.space.now (names_in c.args.elements.now)) c.elements.space
    (names_in c.elements.rest.now) (names_in c.in-Some.after.now) c.in-Step.step.name
    c.elements.invariant.checked at c.in_err-add_to_kind.ensures.loads)

pub elements-preserved-in_ok-add_to_kind : goal.elements-preserved-in_ok-add_to_kind
unfolding names_in
elements-preserved-in_ok-add_to_kind c =
    let at : names_in c.elements.rest.now ≡ c.in-Step.step.name ∷ names_in c.in-Some.after.now =
    ap names_in (c.in-Some.ensures.cases.0 ∙ ap (λ e. e ∷ c.in-Some.after.now) c.in-Step.is) in
    record {
      checked = turn_on name_check (distinct_check c.args.space.now (names_in c.args.elements.now))
          c.elements.space c.add_to_kind.new.space (names_in c.elements.rest.now) (names_in c.in-Some.after.now) c.in-Step.step.name
          c.elements.invariant.checked at c.in_ok-add_to_kind.ensures.loads.0 c.in_ok-add_to_kind.ensures.named;
      built = put_on (names_in c.args.elements.now) c.elements.steps c.add_to_kind.new.kind
          (names_in c.elements.rest.now) (names_in c.in-Some.after.now) c.in-Step.step.name
          c.elements.invariant.built at c.in_ok-add_to_kind.ensures.of_kind;
      named = put_both c.args.space.now c.elements.steps c.elements.space c.add_to_kind.new.kind c.add_to_kind.new.space c.in-Step.step.name
          c.elements.invariant.named c.in_ok-add_to_kind.ensures.named c.in_ok-add_to_kind.ensures.of_kind;
    }

pub add_to_kind-requires : goal.add_to_kind-requires
add_to_kind-requires c = not_behind c.args.space.now c.elements.steps c.elements.space c.in-Step.step.name c.elements.invariant.named

pub returns-clause-loads : goal.returns-clause-loads
unfolding names_in
returns-clause-loads c =
    let left : length c.elements.rest.now ≡ 0 = c.in_default.ensures.cases in
    let at : names_in c.elements.rest.now ≡ [] = ap names_in (none_left c.elements.rest.now left) in (
      turn_ends name_check (distinct_check c.args.space.now (names_in c.args.elements.now)) c.elements.space
          (names_in c.elements.rest.now) c.elements.invariant.checked at,
      put_ends (names_in c.args.elements.now) c.elements.steps (names_in c.elements.rest.now) c.elements.invariant.built at,
    )

pub returns-clause-named : goal.returns-clause-named
unfolding names_in
returns-clause-named c =
    let left : length c.elements.rest.now ≡ 0 = c.in_default.ensures.cases in
    let at : names_in c.elements.rest.now ≡ [] = ap names_in (none_left c.elements.rest.now left) in
    c.elements.invariant.named
    ∙ ap (λ l. c.args.space.now ++ l)
    (put_ends (names_in c.args.elements.now) c.elements.steps (names_in c.elements.rest.now) c.elements.invariant.built at)
