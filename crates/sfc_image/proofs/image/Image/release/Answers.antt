use Rattle.std.proofs.Common.{◌≡◌, ◌<◌, ◌∙◌, ◌∷◌, None, ap, arith, length, refl, slice_set, subst, sym}
use Rattle.sfc_image.specs.declared.slot.Slot.{Slot}
use Rattle.sfc_image.specs.Changes.{Released, settled}
use Rattle.sfc_image.specs.Private.Keeping.{SlotsAgree, slot_at, with_force}
use Rattle.sfc_image.specs.Private.OutputMemos.{MemosHold}
use Rattle.sfc_image.specs.Agreement.{ImageAgrees}
use Rattle.sfc_image.proofs.Agreed.{release_agrees}
use Rattle.sfc_image.proofs.OutputMemos.{memos_stay, same_stays}
use Rattle.sfc_image.proofs.Tracked.{slot_read}
use Rattle.sfc_image.proofs.image.Image.release.Goals as goal

pub returns-clause-ok : goal.returns-clause-ok
unfolding ImageAgrees
returns-clause-ok c plant committed h =
    let image = c.args.self.now in
    let id = c.args.id in
    let slots = image.slots.items in
    let lt : id.0 < length slots =
    let long = c.len.ensures ∙ image.slots.ok.0 in omega (arith, c.if-i-len.false, long) in
    let read = slot_read slots id.0 c.index.result.now lt c.index.ensures in
    let made : with_force None (slot_at slots id.0) ≡ c.with_force.result =
    sym (c.with_force.ensures ∙ ap (with_force None) read) in
    let with_it : Slot = with_force None (slot_at slots id.0) in
    record {
      slots =
          subst (λ (y : Slot). SlotsAgree plant (slice_set slots id.0 y) image.locals.items image.count image.is_trying
          (settled (Released id ∷ committed))) made
          (release_agrees plant slots image.locals.items image.count image.is_trying committed id lt h.slots);
      memos =
          subst (λ (y : Slot). MemosHold plant (slice_set slots id.0 y) image.memos.items image.generation) made
          (memos_stay plant slots (slice_set slots id.0 with_it) image.memos.items image.generation
          (same_stays slots id.0 with_it lt refl (λ on. on)) h.memos);
    }
