-- Which slots are listed as written, after changes.
use Rattle.std.proofs.Common.{◌≡◌, ◌≢◌, inl, inr, ℕ, ◌+◌, ◌<◌, ◌==◌, arith, Bool, true, false, List, length, get_or, slice_set, refl, sym, ◌∙◌, ap, subst}
use Rattle.std.proofs.lemmas.Bool.Decides.{eqb_tells}
use Rattle.std.proofs.lemmas.List.{get_or-set_same, get_or-set_other, length-set}
use Rattle.std.proofs.lemmas.Option.{slice_get_read, get_or_from_slice_get}
use Rattle.sfc_image.specs.declared.slot.Slot.{Slot}
use Rattle.sfc_image.specs.declared.slot.Locals.{Locals}
use Rattle.sfc_image.specs.Private.Keeping.{no_slot, slot_at, locals_at, number_at, tried_count, is_listed, AreTracked, closed, MayClose, AreClosed, begun, AreBegun}
use Rattle.sfc_image.proofs.Counting.{bool_cases, count_same, count_more, count_capacity, count_none, or_left, or_right, or_cases, listed_more, listed_set, same_number, equal_numbers}

abbrev is_tried : Slot → Bool
is_tried slot = slot.is_tried

pub slot_same : (slots : List Slot) (i : ℕ) (y : Slot) → i < length slots → slot_at (slice_set slots i y) i ≡ y
slot_same slots i y lt = get_or-set_same slots i y no_slot lt

pub slot_other : (slots : List Slot) (i j : ℕ) (y : Slot) → j ≢ i → slot_at (slice_set slots i y) j ≡ slot_at slots j
slot_other slots i j y ne = get_or-set_other slots i j y no_slot ne

-- a property of the slot at j, after the one at i was changed
pub by_slot : (P : Slot → Type 0) (slots : List Slot) (i j : ℕ) (y : Slot) → i < length slots → (j ≡ i → P y)
    → (j ≢ i → P (slot_at slots j)) → P (slot_at (slice_set slots i y) j)
by_slot P slots i j y lt here there =
    elim (eqb_tells j i) as (λ _. P (slot_at (slice_set slots i y) j)) [
      | inl w ↦
          subst P (sym (ap (λ (k : ℕ). slot_at (slice_set slots i y) k) w.1 ∙ slot_same slots i y lt)) (here w.1)
      | inr w ↦ subst P (sym (slot_other slots i j y w.1)) (there w.1)
    ]

-- a slot that is tried as much as before
pub tracked_same : (slots : List Slot) (written : List ℕ) (count i : ℕ) (y : Slot) → i < length slots
    → y.is_tried ≡ (slot_at slots i).is_tried → AreTracked slots written count → AreTracked (slice_set slots i y) written count
tracked_same slots written count i y lt same h =
    let long : length (slice_set slots i y) ≡ length slots = length-set slots i y in
    record {
      capacity = h.capacity ∙ sym long;
      counted = count_same is_tried slots i y no_slot lt same ∙ h.counted;
      numbers = λ j jlt. subst (λ (n : ℕ). number_at written j < n) (sym long) (h.numbers j jlt);
      listed = λ j.
          by_slot (λ (slot : Slot). slot.is_tried ≡ true → is_listed written count j ≡ true) slots i j y lt
          (λ e on. h.listed j (ap (λ (k : ℕ). (slot_at slots k).is_tried) e ∙ sym same ∙ on)) (λ ne on. h.listed j on);
    }

pub capacity_left : (slots : List Slot) (written : List ℕ) (count i : ℕ) → i < length slots → (slot_at slots i).is_tried ≡ false
    → AreTracked slots written count → count < length written
capacity_left slots written count i lt off h =
    let capacity : tried_count slots < length slots = count_capacity is_tried slots i no_slot lt off in
    omega (arith, capacity, h.counted, h.capacity)

-- a slot that was not tried, and now is
pub tracked_more : (slots : List Slot) (written : List ℕ) (count i : ℕ) (y : Slot) → i < length slots
    → (slot_at slots i).is_tried ≡ false → y.is_tried ≡ true → AreTracked slots written count
    → AreTracked (slice_set slots i y) (slice_set written count i) (count + 1)
tracked_more slots written count i y lt off on h =
    let long : length (slice_set slots i y) ≡ length slots = length-set slots i y in
    let long_written : length (slice_set written count i) ≡ length written = length-set written count i in
    let capacity : count < length written = capacity_left slots written count i lt off h in
    record {
      capacity = long_written ∙ h.capacity ∙ sym long;
      counted = count_more is_tried slots i y no_slot lt off on ∙ ap (λ (n : ℕ). n + 1) h.counted;
      numbers = λ j jlt.
          elim (eqb_tells j count) as (λ _. number_at (slice_set written count i) j < length (slice_set slots i y)) [
            | inl w ↦
                let here : number_at (slice_set written count i) j ≡ i =
                ap (λ (k : ℕ). number_at (slice_set written count i) k) w.1 ∙ get_or-set_same written count i 0 capacity in
                omega (arith, here, lt, long)
            | inr w ↦
                let there : number_at (slice_set written count i) j ≡ number_at written j =
                get_or-set_other written count j i 0 w.1 in
                let below : number_at written j < length slots = h.numbers j (omega (arith, w.1)) in
                omega (arith, there, below, long)
          ];
      listed = λ j.
          by_slot (λ (slot : Slot). slot.is_tried ≡ true → is_listed (slice_set written count i) (count + 1) j ≡ true)
          slots i j y lt
          (λ e tried.
          listed_set written count i j capacity
          ∙ or_right (is_listed written count j) (i == j) (ap (λ (k : ℕ). i == k) e ∙ same_number i))
          (λ ne tried.
          listed_set written count i j capacity ∙ or_left (is_listed written count j) (i == j) (h.listed j tried));
    }

-- ---- closing

pub closed_untried : (keep : Bool) (slot : Slot) → (closed keep slot).is_tried ≡ false
closed_untried true slot = refl
closed_untried false slot = refl

closed_twice : (keep : Bool) (slot : Slot) → closed keep (closed keep slot) ≡ closed keep slot
closed_twice true slot = refl
closed_twice false slot = refl

close_again : (keep : Bool) (old new : Slot) → MayClose keep old new → MayClose keep old (closed keep new)
close_again keep old new may =
    elim may.either as (λ _. MayClose keep old (closed keep new)) [
      | inl e ↦ record { either = inr (ap (closed keep) e) }
      | inr e ↦ record { either = inr (ap (closed keep) e ∙ closed_twice keep old) }
    ]

pub closed_none : (keep : Bool) (numbers : List ℕ) (slots : List Slot) → AreClosed keep numbers 0 slots slots
closed_none keep numbers slots = record {
  each = λ i. record { either = inl refl };
  listed = λ i on. absurd (let none : is_listed numbers 0 i ≡ false = refl in cc);
}

pub closed_more : (keep : Bool) (numbers : List ℕ) (n : ℕ) (old new : List Slot) → n < length numbers
    → number_at numbers n < length new → AreClosed keep numbers n old new
    → AreClosed keep numbers (n + 1) old
    (slice_set new (number_at numbers n) (closed keep (slot_at new (number_at numbers n))))
closed_more keep numbers n old new fits lt h =
    let k : ℕ = number_at numbers n in
    let y : Slot = closed keep (slot_at new k) in
    record {
      each = λ i.
          by_slot (λ (slot : Slot). MayClose keep (slot_at old i) slot) new k i y lt
          (λ e. close_again keep (slot_at old i) (slot_at new k)
          (subst (λ (j : ℕ). MayClose keep (slot_at old i) (slot_at new j)) e (h.each i)))
          (λ ne. h.each i);
      listed = λ i on.
          by_slot (λ (slot : Slot). slot.is_tried ≡ false) new k i y lt (λ e. closed_untried keep (slot_at new k))
          (λ ne.
          elim (or_cases (is_listed numbers n i) (k == i) (sym (listed_more numbers n i fits) ∙ on))
          as (λ _. (slot_at new i).is_tried ≡ false) [
            | inl w ↦ h.listed i w
            | inr w ↦ absurd (ne (sym (equal_numbers k i w)))
          ]);
    }

-- no slot is tried any more
pub all_closed : (keep : Bool) (written : List ℕ) (count : ℕ) (old new : List Slot) → AreTracked old written count
    → AreClosed keep written count old new → (i : ℕ) → (slot_at new i).is_tried ≡ false
all_closed keep written count old new h c i =
    elim (bool_cases (slot_at old i).is_tried) as (λ _. (slot_at new i).is_tried ≡ false) [
      | inl on ↦ c.listed i (h.listed i on)
      | inr off ↦
          elim (c.each i).either as (λ _. (slot_at new i).is_tried ≡ false) [
            | inl e ↦ ap is_tried e ∙ off
            | inr e ↦ ap is_tried e ∙ closed_untried keep (slot_at old i)
          ]
    ]

pub tracked_closed : (keep : Bool) (written : List ℕ) (count : ℕ) (old new : List Slot) → length new ≡ length old
    → AreTracked old written count → AreClosed keep written count old new → AreTracked new written 0
tracked_closed keep written count old new long h c = record {
  capacity = h.capacity ∙ sym long;
  counted = count_none is_tried new no_slot (λ i lt. all_closed keep written count old new h c i);
  numbers = λ j lt. absurd (omega arith);
  listed = λ i on. absurd (let off : (slot_at new i).is_tried ≡ false = all_closed keep written count old new h c i in cc);
}

-- ---- beginning anew

pub begun_none : (first : ℕ) (slots : List Slot) → AreBegun first 0 slots slots
begun_none first slots = record {
  inside = λ i le lt. absurd (omega arith);
  before = λ i lt. refl;
  behind = λ i le. refl;
  flags = λ i. refl;
  count = refl;
}

pub begun_more : (first n : ℕ) (old new : List Slot) → first + n < length new → AreBegun first n old new
    → AreBegun first (n + 1) old (slice_set new (first + n) (begun (slot_at new (first + n))))
begun_more first n old new lt h =
    let k : ℕ = first + n in
    let y : Slot = begun (slot_at new k) in
    let same : slot_at new k ≡ slot_at old k = h.behind k (omega arith) in
    record {
      inside = λ i le below.
          by_slot (λ (slot : Slot). slot ≡ begun (slot_at old i)) new k i y lt
          (λ e. ap begun (same ∙ ap (λ (j : ℕ). slot_at old j) (sym e))) (λ ne. h.inside i le (omega (arith, ne)));
      before = λ i below. slot_other new k i y (λ e. absurd (omega arith)) ∙ h.before i below;
      behind = λ i le. slot_other new k i y (λ e. absurd (omega arith)) ∙ h.behind i (omega arith);
      flags = λ i.
          by_slot (λ (slot : Slot). slot.is_tried ≡ (slot_at old i).is_tried) new k i y lt
          (λ e. ap is_tried (same ∙ ap (λ (j : ℕ). slot_at old j) (sym e))) (λ ne. h.flags i);
      count = count_same is_tried new k y no_slot lt refl ∙ h.count;
    }

-- the slot that was read
pub slot_read : (slots : List Slot) (i : ℕ) (slot : Slot) → i < length slots → slot ≡ get_or slots i slot → slot ≡ slot_at slots i
slot_read slots i slot lt is =
    sym (get_or_from_slice_get slots i slot no_slot (slice_get_read slots (length slots) i slot refl lt is))

pub locals_read : (locals : List Locals) (k : ℕ) (l : Locals) → k < length locals → l ≡ get_or locals k l → l ≡ locals_at locals k
locals_read locals k l lt is =
    sym (get_or_from_slice_get locals k l (record { first = 0; count = 0 })
    (slice_get_read locals (length locals) k l refl lt is))

-- the same by lists that are equal
pub closed_at : (keep : Bool) (n : ℕ) (numbers numbers' : List ℕ) (old old' new : List Slot) → numbers ≡ numbers' → old ≡ old'
    → AreClosed keep numbers n old new → AreClosed keep numbers' n old' new
closed_at keep n numbers numbers' old old' new e f h =
    subst (λ (xs : List ℕ). AreClosed keep xs n old' new) e (subst (λ (xs : List Slot). AreClosed keep numbers n xs new) f h)
