use Rattle.std.proofs.Common.{◌≡◌, true, ◌<◌, List, length, ◌∙◌, refl, sym, subst}
use Rattle.std.specs.Prelude.{All}
use Rattle.sfc_tables.specs.declared.step_action.StepAction.{StepAction}
use Rattle.sfc_action.specs.Private.Keeping.{IsStateSized}
use Rattle.sfc_action.specs.Private.ControlScans.{IsControlScan}
use Rattle.sfc_action.specs.Private.Singles.{AreSingle}
use Rattle.sfc_action.specs.Agreement.{ControlsAgree}
use Rattle.sfc_action.proofs.DelayLists.{none_listed}
use Rattle.sfc_action.proofs.Fitting.{is_for}
use Rattle.sfc_action.proofs.Sizes.{are_all}
use Rattle.sfc_action.proofs.Starts.{all_listed, fresh_sized, fresh_for, fresh_state}
use Rattle.sfc_action.proofs.Works.{within}
use Rattle.sfc_action.proofs.controls.Controls.new.Goals as goal

-- what was found of SD and SL
single : (c : goal.After-drop-seen-2) → c.in_ok-is_single.is_single ≡ true → AreSingle c.step_actions.result.now
single c on =
    subst AreSingle (c.step_actions-2.ensures ∙ sym c.step_actions.ensures) (c.in_ok-is_single.ensures on)

pub invariant_of-result : goal.invariant_of-result
invariant_of-result c =
    let n = c.actions-n.result in
    let blocks = c.in_ok-blocks.blocks.items in
    let listed = all_listed n c.in_ok-seen.seen c.step_actions.result.now blocks c.in_ok-seen.ensures c.in_ok-blocks.ensures in
    let sized = fresh_sized n blocks c.in_ok-is_single.is_single c.in_ok-state.state c.in_ok-state.ensures listed.actions in
    record {
      state_sized = subst (λ k. IsStateSized k c.in_ok-state.state) (sym sized.q) sized;
      control_scan_sized = subst (λ k. IsControlScan k c.in_ok-control_scan.control_scan) (sym sized.q) c.in_ok-control_scan.ensures;
    }

pub returns-clause-sizes : goal.returns-clause-sizes
returns-clause-sizes c =
    let n = c.actions-n.result in
    let blocks = c.in_ok-blocks.blocks.items in
    let listed = all_listed n c.in_ok-seen.seen c.step_actions.result.now blocks c.in_ok-seen.ensures c.in_ok-blocks.ensures in
    is_for c.args.tables.now c.in_ok-state.state
    (fresh_for c.args.tables.now n c.step_actions.result.now blocks c.in_ok-is_single.is_single c.in_ok-state.state c.actions-n.ensures
    c.step_actions.ensures c.in_ok-state.ensures listed (single c))

pub returns-clause-agrees : goal.returns-clause-agrees
unfolding ControlsAgree
returns-clause-agrees c =
    let n = c.actions-n.result in
    let blocks = c.in_ok-blocks.blocks.items in
    let listed = all_listed n c.in_ok-seen.seen c.step_actions.result.now blocks c.in_ok-seen.ensures c.in_ok-blocks.ensures in
    record {
      size = fresh_for c.args.tables.now n c.step_actions.result.now blocks c.in_ok-is_single.is_single c.in_ok-state.state c.actions-n.ensures
          c.step_actions.ensures c.in_ok-state.ensures listed (single c);
      each = fresh_state c.args.tables.now n blocks c.in_ok-is_single.is_single c.in_ok-state.state c.in_ok-state.ensures listed.fresh;
    }

pub list_blocks-requires-clause-listing : goal.list_blocks-requires-clause-listing
list_blocks-requires-clause-listing c = none_listed c.actions-n.result c.in_ok-seen.seen c.in_ok-seen.ensures

pub are_single-requires : goal.are_single-requires
are_single-requires c =
    let tables = c.args.tables.now in
    let n = c.actions-n.result in
    subst (λ (xs : List StepAction). All (λ (x : StepAction). x.action.0 < n) xs) (sym c.step_actions-2.ensures)
    (λ k d lt. (within tables c.steps-steps.ensures.tables n (length tables.associations) c.actions-n.ensures refl k d lt).action)

pub list_blocks-requires-clause-actions : goal.list_blocks-requires-clause-actions
list_blocks-requires-clause-actions c =
    let tables = c.args.tables.now in
    let n = length c.in_ok-seen.seen.limited in
    let same = (are_all c.actions-n.result c.in_ok-seen.seen c.in_ok-seen.ensures).limited ∙ c.actions-n.ensures in
    subst (λ (xs : List StepAction). All (λ (x : StepAction). x.action.0 < n) xs) (sym c.step_actions.ensures)
    (λ k d lt. (within tables c.steps-steps.ensures.tables n (length tables.associations) same refl k d lt).action)
