use Rattle.std.proofs.Common.{◌≡◌, ℕ, ◌<◌, List, ◌∙◌, ap, refl, sym, subst, length, SFits, w64, to_z, of_z, None}
use Rattle.std.specs.Prelude.{All}
use Rattle.std.proofs.lemmas.Int.{to_z-of_z}
use Rattle.sfc_evolve.specs.Evolution as evolution
use Rattle.sfc_tables.specs.declared.step_action.StepAction.{StepAction}
use Rattle.sfc_action.specs.declared.control_state.ControlState.{ControlState}
use Rattle.sfc_action.specs.ActionControl.{first_in}
use Rattle.sfc_action.specs.Private.Failing.{fault_at}
use Rattle.sfc_action.specs.Private.Storing.{AreStores, IsKept, AreNext}
use Rattle.sfc_action.specs.Private.Marking.{AreSized}
use Rattle.sfc_action.specs.Private.ControlScans.{IsControlScan}
use Rattle.sfc_action.specs.Private.Keeping.{IsStateSized, IsActed}
use Rattle.sfc_action.specs.Agreement.{ControlsAgree}
use Rattle.sfc_action.proofs.Fitting.{is_for, are_for, actions_for}
use Rattle.sfc_action.proofs.Next.{IsRead, fault_read, state_read, next_size}
use Rattle.sfc_action.proofs.Works.{within}
use Rattle.sfc_action.proofs.controls.Controls.step.Goals as goal

pub read-settled-requires-clause-sized : goal.read-settled-requires-clause-sized
read-settled-requires-clause-sized c =
    subst (λ (n : ℕ). IsControlScan n c.self.inside.control_scan)
    (actions_for c.args.tables.now c.self.inside.state c.args.self.now c.self.view_is c.requires.sizes)
    c.self.invariant.control_scan_sized

pub read-settled-requires-clause-stored : goal.read-settled-requires-clause-stored
read-settled-requires-clause-stored c =
    subst (λ (n : ℕ). IsKept n c.self.inside.state.kept)
    (actions_for c.args.tables.now c.self.inside.state c.args.self.now c.self.view_is c.requires.sizes)
    c.self.invariant.state_sized.kept

pub first_fault-requires-clause-inputs : goal.first_fault-requires-clause-inputs
first_fault-requires-clause-inputs c =
    let sized = c.read-settled.ensures.sized in
    subst (λ (n : ℕ). AreSized n c.read-settled.new.self.inputs) (sym sized.inputs.any_time) sized.inputs

pub first_fault-requires-clause-stores : goal.first_fault-requires-clause-stores
first_fault-requires-clause-stores c =
    let sized = c.read-settled.ensures.sized in
    subst (λ (n : ℕ). AreStores n c.read-settled.new.self.stores) (sym sized.inputs.any_time) sized.stores

pub first_fault-requires-clause-actions : goal.first_fault-requires-clause-actions
first_fault-requires-clause-actions c =
    let tables = c.args.tables.now in
    let n = length c.read-settled.new.self.inputs.any_time in
    let same = c.read-settled.ensures.sized.inputs.any_time in
    subst (λ (xs : List StepAction). All (λ (x : StepAction). x.action.0 < n) xs) (sym c.step_actions.ensures)
    (λ k d lt. (within tables c.steps-steps.ensures.tables n (length tables.associations) same refl k d lt).action)

pub act-requires-clause-sized : goal.act-requires-clause-sized
act-requires-clause-sized c = c.self.invariant.state_sized

pub act-requires-clause-control_scan : goal.act-requires-clause-control_scan
act-requires-clause-control_scan c =
    subst (λ (n : ℕ). IsControlScan n c.read-settled.new.self)
    (sym (actions_for c.args.tables.now c.self.inside.state c.args.self.now c.self.view_is c.requires.sizes))
    c.read-settled.ensures.sized

pub invariant_of-self-2 : goal.invariant_of-self-2
invariant_of-self-2 c =
    let sized = c.act.ensures.acted.sized in
    record {
      state_sized = subst (λ (n : ℕ). IsStateSized n c.act.new.self) (sym sized.q) sized;
      control_scan_sized = subst (λ (n : ℕ). IsControlScan n c.act.new.control_scan) (sym sized.q) c.act.ensures.control_scan;
    }

pub returns-in-Some-clause-fault : goal.returns-in-Some-clause-fault
unfolding ControlsAgree
returns-in-Some-clause-fault c scans h steps agrees =
    let tables = c.args.tables.now in
    let control_scan = c.read-settled.new.self in
    let read : IsRead tables c.args.self.now c.active_flags.result.now c.args.associations.times.now c.self.inside.control_scan.presets.items
    control_scan.inputs control_scan.presets.items control_scan.stores = record {
      sound = c.steps-steps.ensures.tables;
      same_times = c.requires.times;
      presets_len = c.self.invariant.control_scan_sized.presets ∙ ap (λ (k : ControlState). length k.q) c.self.view_is ∙ c.requires.sizes.same_actions;
      inputs = c.read-settled.ensures.inputs;
      presets = c.read-settled.ensures.presets;
      stores = subst (λ (k : ControlState). AreNext k.kept.stores control_scan.inputs control_scan.stores) c.self.view_is c.read-settled.ensures.next;
    } in
    sym c.in-Some.is ∙ c.first_fault.ensures.fault
    ∙ ap (first_in (fault_at control_scan.inputs control_scan.stores)) c.step_actions.ensures
    ∙ fault_read tables c.args.self.now c.active_flags.result.now c.args.associations.times.now c.self.inside.control_scan.presets.items control_scan.inputs
    control_scan.presets.items control_scan.stores c.args.t h read agrees.each
    (evolution.active_steps tables (evolution.rows_of tables scans)) (c.active_flags.ensures.flags tables scans steps)

pub returns-clause-sizes : goal.returns-clause-sizes
returns-clause-sizes c =
    let control_scan = c.read-settled.new.self in
    let same : c.self.inside.state ≡ c.args.self.now = c.self.view_is in
    let t = to_z w64 (of_z w64 c.args.t) in
    is_for c.args.tables.now c.act.new.self (next_size c.args.tables.now c.args.self.now c.act.new.self control_scan.inputs control_scan.presets.items control_scan.stores t
    (are_for c.args.tables.now c.args.self.now c.requires.sizes)
    (subst (λ (k : ControlState). IsActed control_scan.inputs control_scan.stores control_scan.presets.items t k c.act.new.self) same c.act.ensures.acted))

-- what the control scan has read
read_of : (c : goal.After-act) → IsRead c.args.tables.now c.args.self.now c.active_flags.result.now c.args.associations.times.now
    c.self.inside.control_scan.presets.items c.read-settled.new.self.inputs c.read-settled.new.self.presets.items c.read-settled.new.self.stores
read_of c = record {
  sound = c.steps-steps.ensures.tables;
  same_times = c.requires.times;
  presets_len = c.self.invariant.control_scan_sized.presets ∙ ap (λ (k : ControlState). length k.q) c.self.view_is ∙ c.requires.sizes.same_actions;
  inputs = c.read-settled.ensures.inputs;
  presets = c.read-settled.ensures.presets;
  stores = subst (λ (k : ControlState). AreNext k.kept.stores c.read-settled.new.self.inputs c.read-settled.new.self.stores) c.self.view_is c.read-settled.ensures.next;
}

pub returns-clause-fault : goal.returns-clause-fault
unfolding ControlsAgree
returns-clause-fault c scans h steps agrees =
    let tables = c.args.tables.now in
    let control_scan = c.read-settled.new.self in
    sym c.in_default.is ∙ c.first_fault.ensures.fault
    ∙ ap (first_in (fault_at control_scan.inputs control_scan.stores)) c.step_actions.ensures
    ∙ fault_read tables c.args.self.now c.active_flags.result.now c.args.associations.times.now c.self.inside.control_scan.presets.items control_scan.inputs
    control_scan.presets.items control_scan.stores c.args.t h (read_of c) agrees.each
    (evolution.active_steps tables (evolution.rows_of tables scans)) (c.active_flags.ensures.flags tables scans steps)

pub returns-clause-agrees : goal.returns-clause-agrees
unfolding ControlsAgree
returns-clause-agrees c scans h steps agrees =
    let tables = c.args.tables.now in
    let control_scan = c.read-settled.new.self in
    let same : c.self.inside.state ≡ c.args.self.now = c.self.view_is in
    let fits : SFits w64 c.args.t = c.ranges.t in
    let there = to_z w64 (of_z w64 c.args.t) in
    let acted : IsActed control_scan.inputs control_scan.stores control_scan.presets.items there c.args.self.now c.act.new.self =
    subst (λ (k : ControlState). IsActed control_scan.inputs control_scan.stores control_scan.presets.items there k c.act.new.self) same c.act.ensures.acted in
    let at : IsActed control_scan.inputs control_scan.stores control_scan.presets.items c.args.t c.args.self.now c.act.new.self =
    simp to_z-of_z at acted in
    let faultless : first_in (fault_at control_scan.inputs control_scan.stores) tables.associations ≡ None =
    sym (ap (first_in (fault_at control_scan.inputs control_scan.stores)) c.step_actions.ensures) ∙ sym c.first_fault.ensures.fault
    ∙ c.in_default.is in
    record {
      size = next_size tables c.args.self.now c.act.new.self control_scan.inputs control_scan.presets.items control_scan.stores c.args.t
          (are_for tables c.args.self.now c.requires.sizes) at;
      each = state_read tables c.args.self.now c.active_flags.result.now c.args.associations.times.now c.self.inside.control_scan.presets.items
          control_scan.inputs control_scan.presets.items control_scan.stores c.args.t h (read_of c) agrees.each c.act.new.self
          (evolution.active_steps tables (evolution.rows_of tables scans)) (c.active_flags.ensures.flags tables scans steps)
          (are_for tables c.args.self.now c.requires.sizes) faultless at;
    }
