use Rattle.std.proofs.Common.{◌≡◌, ◌∙◌, ap, refl, slice_set, subst, sym}
use Rattle.sfc_image.specs.declared.slot.Slot.{Slot}
use Rattle.sfc_image.specs.Private.Keeping.{SlotsAgree, as_output, slot_at}
use Rattle.sfc_image.specs.Private.OutputMemos.{MemosHold}
use Rattle.sfc_image.specs.Agreement.{ImageAgrees}
use Rattle.sfc_image.proofs.Agreed.{marked_agrees}
use Rattle.sfc_image.proofs.OutputMemos.{memos_stay, same_stays}
use Rattle.sfc_image.proofs.Tracked.{slot_read}
use Rattle.sfc_image.proofs.image.Image.mark_output.Goals as goal

pub returns-clause-slots : goal.returns-clause-slots
returns-clause-slots c =
    let slots = c.args.self.now.slots.items in
    let read = slot_read slots c.args.i c.index.result.now c.requires c.index.ensures in
    ap (λ (y : Slot). slice_set slots c.args.i y) (c.as_output.ensures ∙ ap as_output read)

pub returns-clause-agrees : goal.returns-clause-agrees
unfolding ImageAgrees
returns-clause-agrees c plant changes h =
    let image = c.args.self.now in
    let i = c.args.i in
    let slots = image.slots.items in
    let read = slot_read slots i c.index.result.now c.requires c.index.ensures in
    let made : as_output (slot_at slots i) ≡ c.as_output.result = sym (c.as_output.ensures ∙ ap as_output read) in
    record {
      slots =
          subst (λ (y : Slot). SlotsAgree plant (slice_set slots i y) image.locals.items image.count image.is_trying changes) made
          (marked_agrees plant slots image.locals.items image.count image.is_trying changes i c.requires h.slots);
      memos =
          subst (λ (y : Slot). MemosHold plant (slice_set slots i y) image.memos.items image.generation) made
          (memos_stay plant slots (slice_set slots i (as_output (slot_at slots i))) image.memos.items image.generation
          (same_stays slots i (as_output (slot_at slots i)) c.requires refl (λ on. refl)) h.memos);
    }
