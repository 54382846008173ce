use Rattle.std.proofs.Common.{ℕ, ◌∙◌, ap, length, subst, sym}
use Rattle.std.specs.Prelude.{map}
use Rattle.sfc_action.specs.declared.control_state.ControlState.{ControlState}
use Rattle.sfc_action.specs.Private.Keeping.{IsCopy, IsStateSized, delay_of}
use Rattle.sfc_action.specs.Agreement.{ControlsAgree, IsAlike}
use Rattle.sfc_action.proofs.Fitting.{is_for, are_for, same_actions, same_delays}
use Rattle.sfc_action.proofs.Starts.{copied_for, copied_state}
use Rattle.sfc_action.proofs.controls.Controls.copy_from.Goals as goal

pub copy_from-requires-clause-blocks : goal.copy_from-requires-clause-blocks
copy_from-requires-clause-blocks c =
    ap (λ (k : ControlState). map delay_of k.blocks) c.other.view_is
    ∙ same_delays c.args.tables.now c.args.other.now c.args.self.now c.requires.others c.requires.own
    ∙ sym (ap (λ (k : ControlState). map delay_of k.blocks) c.self.view_is)

pub copy_from-requires-clause-other : goal.copy_from-requires-clause-other
copy_from-requires-clause-other c =
    subst (λ (n : ℕ). IsStateSized n c.other.inside.state)
    (ap (λ (k : ControlState). length k.q) c.other.view_is
    ∙ same_actions c.args.tables.now c.args.other.now c.args.self.now c.requires.others c.requires.own
    ∙ sym (ap (λ (k : ControlState). length k.q) c.self.view_is))
    c.other.invariant.state_sized

copy : (c : goal.After-copy_from) → IsCopy c.args.other.now c.copy_from.new.self
copy c = subst (λ (k : ControlState). IsCopy k c.copy_from.new.self) c.other.view_is c.copy_from.ensures.copy

pub returns-clause-sizes : goal.returns-clause-sizes
returns-clause-sizes c tables for =
    is_for tables c.copy_from.new.self
    (copied_for tables c.args.other.now c.copy_from.new.self (copy c) (are_for tables c.args.other.now for))

pub returns-clause-agrees : goal.returns-clause-agrees
unfolding ControlsAgree
returns-clause-agrees c tables h agrees = record {
  size = copied_for tables c.args.other.now c.copy_from.new.self (copy c) agrees.size;
  each = copied_state tables c.args.other.now c.copy_from.new.self h (copy c) agrees.each;
}

pub returns-clause-alike : goal.returns-clause-alike
unfolding IsAlike
returns-clause-alike c =
    let from = c.args.other.now in
    let same = copy c in
    (λ i. record {
      kept = same.kept i;
      q = same.q i;
      executed = from.executed;
      blocks = same.blocks i;
      is_single = same.single i;
    })
