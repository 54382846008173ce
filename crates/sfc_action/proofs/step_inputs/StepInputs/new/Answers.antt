use Rattle.std.proofs.Common.{◌≡◌, ◌<◌, ◌==◌, ◌++◌, ◌∷◌, [], List, length, get_or, arith, ap, sym, subst}
use Rattle.std.specs.Prelude.{All}
use Rattle.std.proofs.lemmas.List.{length-append}
use Rattle.std.proofs.lemmas.List.Elements.{All-filter}
use Rattle.sfc_tables.specs.declared.step_action.StepAction.{StepAction}
use Rattle.sfc_action.specs.Agreement.{AreInputsOf}
use Rattle.sfc_action.specs.Private.Marking.{of_step}
use Rattle.sfc_action.specs.Private.StepGiving.{StepGiven, given_of, IsGivenBy}
use Rattle.sfc_action.proofs.StepGiving.{next_given}
use Rattle.sfc_action.proofs.step_inputs.StepInputs.new.Goals as goal

pub loop-s-preserved : goal.loop-s-preserved
loop-s-preserved c =
    let tables = c.args.tables.now in
    let n = length tables.actions in
    let s = c.loop-s.s in
    let old : List StepGiven = c.loop-s.step_inputs in
    let x : StepGiven = given_of c.in_ok-step_input.step_input in
    let added : c.add.new.self ≡ old ++ x ∷ [] = c.in_ok-add.ensures in
    let within : All (λ (y : StepAction). y.action.0 < n) (of_step tables.associations s) =
    All-filter (λ (y : StepAction). y.step.0 == s) (λ (y : StepAction). y.action.0 < n) tables.associations
    (λ k d lt. (c.steps-s-end.ensures.tables.associations k d lt).action) in
    let here : IsGivenBy n (of_step tables.associations s) x =
    subst (λ (ys : List StepAction). IsGivenBy n ys x) c.of_step.ensures (c.in_ok-step_input.ensures n (rw c.of_step.ensures within)) in
    record {
      steps = omega (arith, ap length added, length-append old (x ∷ []), c.loop-s.invariant.steps);
      each = λ j d lt.
          subst (λ (xs : List StepGiven). IsGivenBy n (of_step tables.associations j) (get_or xs j d)) (sym {A = List StepGiven} added)
          (next_given (λ k y. IsGivenBy n (of_step tables.associations k) y) old x s c.loop-s.invariant.steps here c.loop-s.invariant.each j d lt);
    }

pub returns : goal.returns
unfolding AreInputsOf
returns c = record {
  steps = omega (arith, c.loop-s.invariant.steps, c.steps-s-end.ensures.count);
  each = λ s d lt. c.loop-s.invariant.each s d (omega (arith, c.steps-s-end.ensures.count));
}
