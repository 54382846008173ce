use Rattle.std.proofs.Common.{◌∙◌, ap, sym}
use Rattle.sfc_image.specs.declared.slot.Slot.{Slot}
use Rattle.sfc_image.proofs.Tracked.{capacity_left, tracked_more}
use Rattle.sfc_image.proofs.trying.try_store.Goals as goal

pub bounds-written-count : goal.bounds-written-count
bounds-written-count c =
    capacity_left c.args.slots.now c.args.written.now c.args.count c.args.i c.requires.place
    (sym c.store_tried.ensures.before ∙ c.if-store_tried.false) c.requires.tracked

pub returns-clause-tracked : goal.returns-clause-tracked
returns-clause-tracked c =
    tracked_more c.args.slots.now c.args.written.now c.args.count c.args.i c.store_tried.new.slot c.requires.place
    (sym c.store_tried.ensures.before ∙ c.if-store_tried.false)
    (ap (λ (slot : Slot). slot.is_tried) c.store_tried.ensures.slot) c.requires.tracked
