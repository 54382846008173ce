use Rattle.std.proofs.Common.{◌≡◌, ◌∙◌, ◌<◌, ℕ, List, ap, arith, get_or, length, slice_set, subst, sym}
use Rattle.std.proofs.lemmas.List.{with_items_is}
use Rattle.sfc_base.specs.declared.ids.ProgId.{ProgId}
use Rattle.sfc_flags.specs.Flags.{flag}
use Rattle.sfc_plant.specs.Plants.{PlantData}
use Rattle.sfc_image.specs.declared.image.Image.{Image}
use Rattle.sfc_image.specs.declared.output_memo.OutputMemo.{OutputMemo}
use Rattle.sfc_image.specs.declared.slot.Slot.{Slot}
use Rattle.sfc_image.specs.declared.slot.Locals.{Locals}
use Rattle.sfc_image.specs.Changes.{Changes}
use Rattle.sfc_image.specs.Bodies.{with_changes}
use Rattle.sfc_image.specs.Outputs.{outputs}
use Rattle.sfc_image.specs.Private.Keeping.{SlotsAgree, locals_of}
use Rattle.sfc_image.specs.Private.OutputMemos.{memo_at, HasQ, MemosHold}
use Rattle.sfc_image.specs.Agreement.{ImageAgrees}
use Rattle.sfc_image.proofs.OutputMemos.{memo_again, memo_here, memo_later, memo_read}
use Rattle.sfc_image.proofs.Tracked.{locals_read}
use Rattle.sfc_image.proofs.Viewed.{globals_end}
use Rattle.sfc_image.proofs.image.Image.give_changed.Goals as goal

-- what was read of the image
module _ (plant : PlantData) (image : Image) (changes : Changes) (p : ProgId) (lt : p.0 < length image.locals.items)
    (h : ImageAgrees plant image changes) where
  ends : (l : Locals) → l ≡ get_or image.locals.items 0 l → l.first ≡ length plant.globals
  unfolding ImageAgrees
  ends l read =
      let some : 0 < length image.locals.items = omega (arith, lt) in
      globals_end plant image.slots.items image.locals.items image.count image.is_trying changes l.first some
      (ap (λ (x : Locals). x.first) (locals_read image.locals.items 0 l some read)) h.slots

  of_instance : (l : Locals) → l ≡ get_or image.locals.items p.0 l → l ≡ locals_of plant p
  unfolding ImageAgrees
  of_instance l read = locals_read image.locals.items p.0 l lt read ∙ h.slots.locals_are p lt

  has : (slots : List Slot) (memo : OutputMemo) → slots ≡ image.slots.items → memo ≡ memo_at image.memos.items p.0
      → ((a : ℕ) → HasQ plant p image.slots.items a (flag (memo_at image.memos.items p.0).q a)) → (a : ℕ) → HasQ plant p slots a (flag memo.q a)
  has slots memo is read given a =
      subst (λ (xs : List Slot). HasQ plant p xs a (flag memo.q a)) (sym is)
      (subst (λ (x : OutputMemo). HasQ plant p image.slots.items a (flag x.q a)) (sym read) (given a))

  agree : (slots : List Slot) → slots ≡ image.slots.items → SlotsAgree plant slots image.locals.items image.count image.is_trying changes
  unfolding ImageAgrees
  agree slots is =
      subst (λ (xs : List Slot). SlotsAgree plant xs image.locals.items image.count image.is_trying changes) (sym is) h.slots

pub returns-then-has_given-clause-agrees : goal.returns-then-has_given-clause-agrees
unfolding ImageAgrees
returns-then-has_given-clause-agrees c plant changes tables h =
    let image = c.args.self.now in
    let slots = image.slots.items in
    let memos = image.memos.items in
    let locals = image.locals.items in
    let p = c.args.instance in
    let inside = c.requires.instance in
    let later = c.begin_generation.new.generation in
    let gave = c.give_differing-count in
    let new = gave.new.slots in
    let m : OutputMemo = gave.new.memo in
    let done : Changes = with_changes (outputs plant p c.args.q.now 0 c.args.tables.now.actions) changes in
    let lt : p.0 < length memos = omega (arith, inside, image.sized) in
    let read = memo_read memos p.0 c.index_mut.result.now lt c.index_mut.ensures.value in
    let now = c.deref_mut.ensures.value in
    let globals = ends plant image changes p inside h c.index.result.now c.index.ensures in
    let here = of_instance plant image changes p inside h c.index-2.result.now c.index-2.ensures in
    let had = has plant image changes p inside h c.deref_mut.result.now c.index_mut.result.now now read (λ a. c.requires.given plant changes a h) in
    let before = agree plant image changes p inside h c.deref_mut.result.now now in
    let given = gave.ensures.given plant changes p locals tables globals here had before in
    let is = sym (with_items_is image.slots new (gave.auto.slots ∙ c.deref_mut.ensures.len)) in
    let same = gave.ensures.generation ∙ ap (λ (x : OutputMemo). x.generation) read in
    c.leave_memo.ensures.agrees plant done
    (record {
      slots =
          subst (λ (xs : List Slot). SlotsAgree plant xs locals gave.result.0 image.is_trying done) is
          (gave.ensures.agrees plant changes p locals tables globals here had before);
      memos =
          subst (λ (xs : List Slot). MemosHold plant xs (slice_set memos p.0 m) later) is
          (memo_later plant slots new memos image.generation later p m lt same c.begin_generation.ensures h.memos);
    })
    (λ sized a.
    subst (λ (xs : List Slot). HasQ plant p xs a (flag (memo_at (slice_set memos p.0 m) p.0).q a)) is
    (subst (λ (x : OutputMemo). HasQ plant p new a (flag x.q a)) (sym (memo_here memos p.0 m lt)) (given a)))

pub returns-else-has_given-clause-agrees : goal.returns-else-has_given-clause-agrees
unfolding ImageAgrees
returns-else-has_given-clause-agrees c plant changes tables h =
    let image = c.args.self.now in
    let memos = image.memos.items in
    let locals = image.locals.items in
    let p = c.args.instance in
    let inside = c.requires.instance in
    let gave = c.give_differing-count in
    let new = gave.new.slots in
    let m : OutputMemo = gave.new.memo in
    let done : Changes = with_changes (outputs plant p c.args.q.now 0 c.args.tables.now.actions) changes in
    let lt : p.0 < length memos = omega (arith, inside, image.sized) in
    let read = memo_read memos p.0 c.index_mut.result.now lt c.index_mut.ensures.value in
    let now = c.deref_mut.ensures.value in
    let globals = ends plant image changes p inside h c.index.result.now c.index.ensures in
    let here = of_instance plant image changes p inside h c.index-2.result.now c.index-2.ensures in
    let had = has plant image changes p inside h c.deref_mut.result.now c.index_mut.result.now now read (λ a. c.requires.given plant changes a h) in
    let before = agree plant image changes p inside h c.deref_mut.result.now now in
    let given = gave.ensures.given plant changes p locals tables globals here had before in
    let is = sym (with_items_is image.slots new (gave.auto.slots ∙ c.deref_mut.ensures.len)) in
    let still = gave.ensures.same c.if-has_given.false ∙ now in
    record {
      slots =
          subst (λ (xs : List Slot). SlotsAgree plant xs locals gave.result.0 image.is_trying done) is
          (gave.ensures.agrees plant changes p locals tables globals here had before);
      memos =
          subst (λ (xs : List Slot). MemosHold plant xs (slice_set memos p.0 m) image.generation) is
          (memo_again plant new memos image.generation p m lt (gave.ensures.generation ∙ ap (λ (x : OutputMemo). x.generation) read) given
          (subst (λ (xs : List Slot). MemosHold plant xs memos image.generation) (sym still) h.memos));
    }
