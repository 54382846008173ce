use Rattle.std.proofs.Common.{◌≡◌, ◌∙◌, List, ℕ, false, length, subst, sym}
use Rattle.std.proofs.lemmas.List.{with_items_is}
use Rattle.sfc_image.specs.declared.slot.Slot.{Slot}
use Rattle.sfc_image.specs.Changes.{settled}
use Rattle.sfc_image.specs.Private.Keeping.{AreClosed, AreTracked, AreWithin, SlotsAgree}
use Rattle.sfc_image.specs.Private.OutputMemos.{MemosHold}
use Rattle.sfc_image.specs.Agreement.{ImageAgrees}
use Rattle.sfc_image.proofs.Agreed.{undo_agrees}
use Rattle.sfc_image.proofs.OutputMemos.{memos_later}
use Rattle.sfc_image.proofs.Tracked.{closed_at, tracked_closed}
use Rattle.sfc_image.proofs.image.Image.undo.Goals as goal

pub invariant_of-self : goal.invariant_of-self
invariant_of-self c =
    let image = c.args.self.now in
    let slots = image.slots.items in
    let written = image.written.items in
    let new = c.close_all.new.slots in
    let long : length new ≡ image.slots.len = c.close_all.auto.slots ∙ c.deref_mut.ensures.len in
    let closed : AreClosed false written image.count slots new =
    closed_at false image.count c.deref.result.now written c.deref_mut.result.now slots new c.deref.ensures.value
    c.deref_mut.ensures.value c.close_all.ensures.closed in
    let tracked : AreTracked new written 0 =
    tracked_closed false written image.count slots new (long ∙ image.slots.ok.0) image.tracked closed in
    let is = sym (with_items_is image.slots new long) in
    record {
      tracked = subst (λ (xs : List Slot). AreTracked xs written 0) is tracked;
      within =
          subst (λ (xs : List Slot). AreWithin (length xs) image.locals.items) is
          (subst (λ (n : ℕ). AreWithin n image.locals.items) (sym (long ∙ image.slots.ok.0)) image.within);
      sized = image.sized;
    }

pub returns-clause-agrees : goal.returns-clause-agrees
unfolding ImageAgrees
returns-clause-agrees c plant committed tried h =
    let image = c.args.self.now in
    let slots = image.slots.items in
    let written = image.written.items in
    let new = c.close_all.new.slots in
    let long : length new ≡ image.slots.len = c.close_all.auto.slots ∙ c.deref_mut.ensures.len in
    let closed : AreClosed false written image.count slots new =
    closed_at false image.count c.deref.result.now written c.deref_mut.result.now slots new c.deref.ensures.value
    c.deref_mut.ensures.value c.close_all.ensures.closed in
    let is = sym (with_items_is image.slots new long) in
    record {
      slots =
          subst (λ (xs : List Slot). SlotsAgree plant xs image.locals.items 0 false (settled committed)) is
          (undo_agrees plant slots new image.locals.items written image.count image.is_trying committed tried (long ∙ image.slots.ok.0)
          image.tracked closed h.slots);
      memos =
          subst (λ (xs : List Slot). MemosHold plant xs image.memos.items c.begin_generation.new.generation) is
          (memos_later plant slots new image.memos.items image.generation c.begin_generation.new.generation c.begin_generation.ensures h.memos);
    }
