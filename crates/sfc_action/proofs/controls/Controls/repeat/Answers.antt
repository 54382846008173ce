use Rattle.std.proofs.Common.{◌≡◌, ◌∷◌, sym, ◌∙◌, subst}
use Rattle.sfc_action.specs.declared.control_state.ControlState.{ControlState}
use Rattle.sfc_action.specs.Agreement.{ControlsAgree, IsAlike, Keeps}
use Rattle.sfc_action.specs.Private.Resting.{IsAtRest, rested}
use Rattle.sfc_action.proofs.Resting.{rested_size, rested_state, rested_faultless}
use Rattle.sfc_action.proofs.controls.Controls.repeat.Goals as goal

at_rest : (c : goal.After-rest) → IsAtRest c.args.self.now
at_rest c = subst IsAtRest c.self.view_is (c.is_at_rest.ensures.rest c.if-not-is_at_rest.false)

pub returns-clause-agrees : goal.returns-clause-agrees
unfolding ControlsAgree
returns-clause-agrees c on tables scan last h same agrees =
    let old = c.args.self.now in
    let is : c.rest.new.self ≡ rested old = c.rest.ensures.rested ∙ (λ i. rested (c.self.view_is i)) in
    subst (λ (k : ControlState). Keeps tables k (scan ∷ last ∷ h)) (sym is) (record {
      size = rested_size tables old agrees.size;
      each = rested_state tables old scan last h same agrees.size agrees.each (at_rest c);
    })

pub returns-clause-faultless : goal.returns-clause-faultless
unfolding ControlsAgree
returns-clause-faultless c on tables scan last h same agrees =
    rested_faultless tables c.args.self.now scan last h same agrees.size agrees.each (at_rest c)

pub returns-then-not-is_at_rest-clause-alike : goal.returns-then-not-is_at_rest-clause-alike
unfolding IsAlike
returns-then-not-is_at_rest-clause-alike c other alike = alike

pub returns-clause-alike : goal.returns-clause-alike
unfolding IsAlike
returns-clause-alike c other alike =
    let old = c.args.self.now in
    let is : c.rest.new.self ≡ rested old = c.rest.ensures.rested ∙ (λ i. rested (c.self.view_is i)) in
    (λ i. record other { executed = (is i).executed }) ∙ (λ i. record (alike i) { executed = old.q }) ∙ sym is
