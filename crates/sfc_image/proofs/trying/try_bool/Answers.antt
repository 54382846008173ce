use Rattle.std.proofs.Common.{◌∙◌, ap, sym}
use Rattle.sfc_image.specs.declared.slot.Slot.{Slot}
use Rattle.sfc_image.proofs.Tracked.{capacity_left, tracked_more}
use Rattle.sfc_image.proofs.trying.try_bool.Goals as goal

pub bounds-written-count : goal.bounds-written-count
bounds-written-count c =
    capacity_left c.args.slots.now c.args.written.now c.args.count c.args.i c.requires.place
    (sym c.store_tried_bool.ensures.before ∙ c.if-store_tried_bool.false) c.requires.tracked

pub returns-clause-tracked : goal.returns-clause-tracked
returns-clause-tracked c =
    tracked_more c.args.slots.now c.args.written.now c.args.count c.args.i c.store_tried_bool.new.slot c.requires.place
    (sym c.store_tried_bool.ensures.before ∙ c.if-store_tried_bool.false)
    (ap (λ (slot : Slot). slot.is_tried) c.store_tried_bool.ensures.slot) c.requires.tracked
