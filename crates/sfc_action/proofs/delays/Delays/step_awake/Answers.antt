use Rattle.std.proofs.Common.{◌≡◌, ◌∙◌, ℕ, ℤ, List, length, ap, sym, subst, arith, SFits, w64, to_z, of_z}
use Rattle.std.specs.Vec.{with_items}
use Rattle.std.proofs.lemmas.Int.{to_z-of_z}
use Rattle.std.proofs.lemmas.List.{with_items_is}
use Rattle.sfc_action.specs.declared.blocks.Block.{Block}
use Rattle.sfc_action.specs.Private.TimedSets.{AreAll}
use Rattle.sfc_action.specs.Private.Delays.{AreStepped}
use Rattle.sfc_action.proofs.delays.Delays.step_awake.Goals as goal

pub returns-clause-sized : goal.returns-clause-sized
returns-clause-sized c =
    let was = c.requires.sized in
    record {
      inputs = was.inputs;
      presets = was.presets;
      stores = was.stores;
      called = was.called;
      elapsed = subst (λ (n : ℕ). AreAll n c.step_live-self-inside.new.elapsed) (ap length c.deref.ensures.value) c.step_live-self-inside.ensures.sized;
    }

pub returns-clause-stepped : goal.returns-clause-stepped
returns-clause-stepped c =
    let i = c.args.control_scan.now.inputs in
    let s = c.args.control_scan.now.stores in
    let old = c.args.self.now in
    let new = c.step_live-self-inside.new.blocks in
    let items = with_items_is c.self.inside.blocks new (omega arith) in
    let was : c.deref_mut.result.now ≡ old = c.deref_mut.ensures.value ∙ c.self.view_is in
    let there = to_z w64 (of_z w64 c.args.t) in
    let stepped : AreStepped i s c.args.control_scan.now.presets.items there old
    (with_items c.self.inside.blocks new).items =
    subst (λ (xs : List Block). AreStepped i s c.args.control_scan.now.presets.items there old xs) (sym items)
    (subst (λ (xs : List Block). AreStepped i s c.args.control_scan.now.presets.items there xs new) was
    (subst (λ (ps : List ℤ). AreStepped i s ps there c.deref_mut.result.now new) c.deref.ensures.value c.step_live-self-inside.ensures.stepped)) in
    let fits : SFits w64 c.args.t = c.ranges.t in
    simp to_z-of_z at stepped
