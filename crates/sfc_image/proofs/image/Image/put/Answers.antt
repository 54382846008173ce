use Rattle.std.proofs.Common.{◌≡◌, ◌∙◌, Bool, List, ap, length, slice_set, subst, sym, refl}
use Rattle.std.proofs.lemmas.List.{with_items_is}
use Rattle.sfc_image.specs.declared.slot.Slot.{Slot}
use Rattle.sfc_image.specs.Changes.{Stored, with_change}
use Rattle.sfc_image.specs.Private.Keeping.{SlotsAgree, IsPut, slot_at, with_value, tried}
use Rattle.sfc_image.specs.Private.OutputMemos.{IsGenerationAfter, MemosHold}
use Rattle.sfc_image.specs.Agreement.{ImageAgrees}
use Rattle.sfc_image.proofs.Agreed.{stored_again, stored_for_good, stored_in_transaction}
use Rattle.sfc_image.proofs.OutputMemos.{memos_changed}
use Rattle.sfc_image.proofs.Puts.{put_slot}
use Rattle.sfc_image.proofs.Tracked.{slot_read}
use Rattle.sfc_image.proofs.image.Image.put.Goals as goal

pub returns-else-self-clause-put : goal.returns-else-self-clause-put
returns-else-self-clause-put c =
    let slots = c.args.self.now.slots.items in
    let i = c.args.i in
    let read = slot_read slots i c.index-else-self-2.result.now c.requires c.index-else-self-2.ensures in
    put_slot slots i c.args.value c.with_value.result c.requires (ap (λ (slot : Slot). slot.stored) c.with_value.ensures)
    (ap (λ (slot : Slot). slot.forced) (c.with_value.ensures ∙ ap (with_value c.args.value) read))
    (ap (λ (slot : Slot). slot.is_output) (c.with_value.ensures ∙ ap (with_value c.args.value) read))

pub returns-else-self-clause-agrees : goal.returns-else-self-clause-agrees
unfolding ImageAgrees
returns-else-self-clause-agrees c plant changes h =
    let image = c.args.self.now in
    let i = c.args.i in
    let slots = image.slots.items in
    let read = slot_read slots i c.index-else-self-2.result.now c.requires c.index-else-self-2.ensures in
    let made : with_value c.args.value (slot_at slots i) ≡ c.with_value.result = sym (c.with_value.ensures ∙ ap (with_value c.args.value) read) in
    record {
      slots =
          subst (λ (y : Slot). SlotsAgree plant (slice_set slots i y) image.locals.items image.count image.is_trying
          (with_change (Stored (record { 0 = i }) c.args.value) changes)) made
          (stored_for_good plant slots image.locals.items image.count image.is_trying changes (record { 0 = i }) c.args.value
          c.if-self.false c.requires h.slots);
      memos =
          memos_changed plant slots image.memos.items image.generation c.begin_generation_if-else-self.new.generation i c.with_value.result
          (subst (λ (b : Bool). IsGenerationAfter b image.generation c.begin_generation_if-else-self.new.generation) (ap (λ (slot : Slot). slot.is_output)
          (slot_read slots i c.index-else-self.result.now c.requires c.index-else-self.ensures))
          c.begin_generation_if-else-self.ensures) h.memos;
    }

pub returns-else-has_stored-clause-put : goal.returns-else-has_stored-clause-put
returns-else-has_stored-clause-put c =
    let image = c.args.self.now in
    let i = c.args.i in
    let slots = image.slots.items in
    let long : length c.try_store-self.new.slots ≡ image.slots.len = c.try_store-self.auto.slots ∙ c.deref_mut.ensures.len in
    let made : slice_set slots i (tried c.args.value (slot_at slots i)) ≡ c.try_store-self.new.slots =
    sym (c.try_store-self.ensures.slots
    ∙ ap (λ (xs : List Slot). slice_set xs i (tried c.args.value (slot_at xs i))) c.deref_mut.ensures.value) in
    subst (λ (xs : List Slot). IsPut i c.args.value slots xs)
    (made ∙ sym (with_items_is image.slots c.try_store-self.new.slots long))
    (put_slot slots i c.args.value (tried c.args.value (slot_at slots i)) c.requires refl refl refl)

pub returns-else-has_stored-clause-agrees : goal.returns-else-has_stored-clause-agrees
unfolding ImageAgrees
returns-else-has_stored-clause-agrees c plant changes h =
    let image = c.args.self.now in
    let i = c.args.i in
    let slots = image.slots.items in
    let more = c.try_store-self.result in
    let long : length c.try_store-self.new.slots ≡ image.slots.len = c.try_store-self.auto.slots ∙ c.deref_mut.ensures.len in
    let made : slice_set slots i (tried c.args.value (slot_at slots i)) ≡ c.try_store-self.new.slots =
    sym (c.try_store-self.ensures.slots
    ∙ ap (λ (xs : List Slot). slice_set xs i (tried c.args.value (slot_at xs i))) c.deref_mut.ensures.value) in
    let is = made ∙ sym (with_items_is image.slots c.try_store-self.new.slots long) in
    let read = slot_read slots i c.index.result.now c.requires c.index.ensures in
    record {
      slots =
          subst (λ (xs : List Slot). SlotsAgree plant xs image.locals.items more image.is_trying
          (with_change (Stored (record { 0 = i }) c.args.value) changes)) is
          (stored_in_transaction plant slots image.locals.items image.count more image.is_trying changes (record { 0 = i }) c.args.value
          c.if-self.true c.requires h.slots);
      memos =
          subst (λ (xs : List Slot). MemosHold plant xs image.memos.items c.begin_generation_if.new.generation) is
          (memos_changed plant slots image.memos.items image.generation c.begin_generation_if.new.generation i (tried c.args.value (slot_at slots i))
          (subst (λ (b : Bool). IsGenerationAfter b image.generation c.begin_generation_if.new.generation) (ap (λ (slot : Slot). slot.is_output) read)
          c.begin_generation_if.ensures) h.memos);
    }

pub returns-then-has_stored-clause-agrees : goal.returns-then-has_stored-clause-agrees
unfolding ImageAgrees
returns-then-has_stored-clause-agrees c plant changes h =
    let image = c.args.self.now in
    record {
      slots =
          stored_again plant image.slots.items image.locals.items image.count image.is_trying changes (record { 0 = c.args.i }) c.args.value
          c.requires (c.has_stored.ensures c.if-has_stored.true) h.slots;
      memos = h.memos;
    }
