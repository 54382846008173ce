use Rattle.std.proofs.Common.{◌≡◌, ℕ, length, ◌∙◌, ap, refl, sym, subst, arith}
use Rattle.std.proofs.lemmas.List.{with_items_is}
use Rattle.sfc_flags.specs.Flags.{places_from}
use Rattle.sfc_action.specs.Private.Marking.{AreSized, cleared, marked_at, presets_at}
use Rattle.sfc_action.specs.Private.Storing.{AreStores, IsKept}
use Rattle.sfc_action.specs.Private.TimedSets.{AreAll, none}
use Rattle.sfc_action.specs.Private.ControlScans.{IsControlScan}
use Rattle.sfc_action.proofs.Sizes.{are_sized}
use Rattle.sfc_action.proofs.control_scan.ControlScan.read.Goals as goal

pub mark_active-requires-clause-sized : goal.mark_active-requires-clause-sized
mark_active-requires-clause-sized c =
    let same : length c.args.self.now.inputs.any_time ≡ length c.deref_mut.result.now =
    c.requires.sized.inputs.any_time ∙ sym c.requires.sized.presets ∙ sym (ap length c.deref_mut.ensures.value) in
    are_sized (length c.deref_mut.result.now) c.clear.new.self (c.clear.ensures.inputs ∙ ap cleared same)

pub settle-requires-clause-sized : goal.settle-requires-clause-sized
settle-requires-clause-sized c =
    let was = c.requires.sized in
    let same = was.called in
    let presets_len = ap length c.deref_mut.ensures.value ∙ was.presets in
    record {
      inputs = subst (λ (n : ℕ). AreSized n c.mark_active.new.inputs) (presets_len ∙ sym same) c.mark_active.ensures.sized;
      presets = ap length (with_items_is c.args.self.now.presets c.mark_active.new.presets (omega arith)) ∙ omega (arith, presets_len, same);
      stores = subst (λ (n : ℕ). AreStores n c.args.self.now.stores) (sym same) was.stores;
      called = refl;
      elapsed = subst (λ (n : ℕ). AreAll n c.args.self.now.elapsed) (sym same) was.elapsed;
    }

pub settle-requires-clause-stored : goal.settle-requires-clause-stored
settle-requires-clause-stored c =
    subst (λ (n : ℕ). IsKept n c.args.stored.now) (sym c.requires.sized.called) c.requires.stored

pub returns-clause-sized : goal.returns-clause-sized
returns-clause-sized c =
    subst (λ (n : ℕ). IsControlScan n c.settle.new.self) c.requires.sized.called c.settle.ensures.sized

pub returns-clause-presets : goal.returns-clause-presets
returns-clause-presets c =
    ap (λ v. v.items) c.settle.ensures.presets
    ∙ with_items_is c.args.self.now.presets c.mark_active.new.presets (omega arith) ∙ c.mark_active.ensures.presets
    ∙ ap (presets_at c.args.associations.times.now c.args.tables.now.associations (places_from c.args.active.now 0))
    c.deref_mut.ensures.value

pub returns-clause-inputs : goal.returns-clause-inputs
returns-clause-inputs c =
    c.settle.ensures.inputs ∙ c.mark_active.ensures.inputs
    ∙ ap (marked_at c.args.tables.now.associations (places_from c.args.active.now 0))
    (c.clear.ensures.inputs ∙ ap cleared c.requires.sized.inputs.any_time)

pub returns-clause-elapsed : goal.returns-clause-elapsed
returns-clause-elapsed c = c.settle.ensures.elapsed ∙ ap none c.requires.sized.called
