use Rattle.std.proofs.Common.{◌≡◌, ℕ, ◌∙◌, ap, sym, subst, length, SFits, w64, to_z, of_z, List}
use Rattle.std.proofs.lemmas.Int.{to_z-of_z}
use Rattle.sfc_action.specs.declared.blocks.Block.{Block}
use Rattle.sfc_action.specs.declared.control_scan.ControlScan.{ControlScan}
use Rattle.sfc_action.specs.Private.TimedSets.{none}
use Rattle.sfc_action.specs.Private.ControlScans.{IsControlScan}
use Rattle.sfc_action.specs.Private.Delays.{AreOf, AreStepped, gathered}
use Rattle.sfc_action.specs.Private.Rows.{state_after, q_of, executed_of, input_row, store_row, timed_row, state_row}
use Rattle.sfc_flags.specs.Flags.{flag}
use Rattle.sfc_flags.proofs.Wordwise.{same_flags}
use Rattle.sfc_action.proofs.Rows.{same_stores}
use Rattle.sfc_action.proofs.Sizes.{still_of}
use Rattle.sfc_action.proofs.control_state.ControlState.act.Goals as goal

pub step-requires-clause-sized : goal.step-requires-clause-sized
step-requires-clause-sized c =
    subst (λ (n : ℕ). IsControlScan n c.args.control_scan.now) (sym c.requires.control_scan.presets) c.requires.control_scan

pub step-requires-clause-actions : goal.step-requires-clause-actions
step-requires-clause-actions c =
    subst (λ (n : ℕ). AreOf n c.args.self.now.blocks) (sym c.requires.control_scan.presets) c.requires.sized.blocks

pub step-requires-clause-elapsed : goal.step-requires-clause-elapsed
step-requires-clause-elapsed c = c.requires.elapsed ∙ ap none (sym c.requires.control_scan.presets)

pub act_all-requires-clause-sized : goal.act_all-requires-clause-sized
act_all-requires-clause-sized c =
    let n = length c.args.self.now.q in
    let sized = c.requires.sized in
    record {
      kept = sized.kept;
      q = sized.q;
      executed = sized.executed;
      blocks = still_of n c.args.self.now.blocks c.step.new.self c.step.ensures.len (λ k d lt. (c.step.ensures.stepped k d lt).action)
          sized.blocks;
    }

pub act_all-requires-clause-control_scan : goal.act_all-requires-clause-control_scan
act_all-requires-clause-control_scan c =
    subst (λ (n : ℕ). IsControlScan n c.step.new.control_scan) c.requires.control_scan.presets c.step.ensures.sized

pub returns-clause-control_scan : goal.returns-clause-control_scan
returns-clause-control_scan c =
    subst (λ (n : ℕ). IsControlScan n c.step.new.control_scan) c.requires.control_scan.presets c.step.ensures.sized

pub returns-clause-acted : goal.returns-clause-acted
returns-clause-acted c =
    let old = c.args.self.now in
    let s = c.args.control_scan.now in
    let n = length old.q in
    let presets_len : length s.presets.items ≡ n = c.requires.control_scan.presets in
    let scan = c.step.new.control_scan in
    let new = c.act_all.new.self in
    let items : new.blocks ≡ c.step.new.self = c.act_all.ensures.blocks in
    let elapsed : scan.elapsed ≡ gathered new.blocks (none n) =
    ap (λ (x : ControlScan). x.elapsed) c.step.ensures.control_scan ∙ (λ i. gathered (sym items i) (none (presets_len i))) in
    let inputs : scan.inputs ≡ s.inputs = ap (λ (x : ControlScan). x.inputs) c.step.ensures.control_scan in
    let stores : scan.stores ≡ s.stores = ap (λ (x : ControlScan). x.stores) c.step.ensures.control_scan in
    let stepped : AreStepped s.inputs s.stores s.presets.items (to_z w64 (of_z w64 c.args.t)) old.blocks new.blocks =
    subst (λ (xs : List Block). AreStepped s.inputs s.stores s.presets.items (to_z w64 (of_z w64 c.args.t)) old.blocks xs)
    (sym items) c.step.ensures.stepped in
    let fits : SFits w64 c.args.t = c.ranges.t in
    let stepped_at : AreStepped s.inputs s.stores s.presets.items c.args.t old.blocks new.blocks = simp to_z-of_z at stepped in
    let same_blocks : length new.blocks ≡ length old.blocks = ap length items ∙ c.step.ensures.len in
    let rows : (a : ℕ) → state_row new a ≡ state_after (input_row s.inputs a) (store_row s.stores a)
    (timed_row (gathered new.blocks (none n)) a) (state_row old a) =
    λ a. c.act_all.ensures.rows a
    ∙ (λ i. state_after (input_row (inputs i) a) (store_row (stores i) a) (timed_row (elapsed i) a) (state_row old a)) in
    let sized = c.act_all.ensures.sized in
    record {
      sized = sized;
      same_blocks = same_blocks;
      blocks = stepped_at;
      delayed_stored = λ a. ap (λ r. r.kept.delayed_stored) (rows a);
      outputs = λ a. ap (λ r. r.q) (rows a)
          ∙ ap (q_of (input_row s.inputs a) (store_row s.stores a) (timed_row (gathered new.blocks (none n)) a) (flag old.kept.pulse a))
          (sym (ap (λ r. r.kept.delayed_stored) (rows a)));
      executions = λ a. ap (λ r. r.executed) (rows a)
          ∙ ap (executed_of (input_row s.inputs a) (state_row old a)) (sym (ap (λ r. r.q) (rows a)));
      pulse = same_flags n new.kept.pulse s.inputs.pulse sized.kept.pulse c.requires.control_scan.inputs.pulse (λ a. ap (λ r. r.kept.pulse) (rows a));
      rising_pulse = same_flags n new.kept.rising_pulse s.inputs.rising_pulse sized.kept.rising_pulse c.requires.control_scan.inputs.rising_pulse
          (λ a. ap (λ r. r.kept.rising_pulse) (rows a));
      falling_pulse = same_flags n new.kept.falling_pulse s.inputs.falling_pulse sized.kept.falling_pulse
          c.requires.control_scan.inputs.falling_pulse (λ a. ap (λ r. r.kept.falling_pulse) (rows a));
      stores = same_stores n new.kept.stores s.stores sized.kept.stores c.requires.control_scan.stores (λ a. ap (λ r. r.kept.stores) (rows a));
      single = c.act_all.ensures.single;
    }
