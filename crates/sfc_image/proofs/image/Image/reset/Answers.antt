use Rattle.std.proofs.Common.{◌≡◌, ◌∙◌, ◌∷◌, List, length, subst, sym}
use Rattle.std.proofs.lemmas.List.{with_items_is}
use Rattle.sfc_image.specs.declared.slot.Slot.{Slot}
use Rattle.sfc_image.specs.Changes.{Reset, settled}
use Rattle.sfc_image.specs.Private.Keeping.{SlotsAgree, AreBegun, locals_of}
use Rattle.sfc_image.specs.Private.OutputMemos.{MemosHold}
use Rattle.sfc_image.specs.Agreement.{ImageAgrees}
use Rattle.sfc_image.proofs.Agreed.{reset_agrees}
use Rattle.sfc_image.proofs.OutputMemos.{memos_later}
use Rattle.sfc_image.proofs.Tracked.{locals_read}
use Rattle.sfc_image.proofs.image.Image.reset.Goals as goal

pub returns-clause-agrees : goal.returns-clause-agrees
unfolding ImageAgrees
returns-clause-agrees c plant committed h =
    let image = c.args.self.now in
    let p = c.args.instance in
    let l = c.index.result.now in
    let slots = image.slots.items in
    let new = c.begin_all.new.slots in
    let is : l ≡ locals_of plant p =
    locals_read image.locals.items p.0 l c.requires.instance c.index.ensures ∙ h.slots.locals_are p c.requires.instance in
    let begun : AreBegun l.first l.count slots new =
    subst (λ (xs : List Slot). AreBegun l.first l.count xs new) c.deref_mut.ensures.value c.begin_all.ensures.begun in
    let long : length new ≡ image.slots.len = c.begin_all.auto.slots ∙ c.deref_mut.ensures.len in
    let items = sym (with_items_is image.slots new long) in
    record {
      slots =
          subst (λ (xs : List Slot). SlotsAgree plant xs image.locals.items image.count image.is_trying (settled (Reset p ∷ committed))) items
          (reset_agrees plant slots new image.locals.items image.count image.is_trying committed p l (long ∙ image.slots.ok.0) is begun h.slots);
      memos =
          subst (λ (xs : List Slot). MemosHold plant xs image.memos.items c.begin_generation.new.generation) items
          (memos_later plant slots new image.memos.items image.generation c.begin_generation.new.generation c.begin_generation.ensures h.memos);
    }
