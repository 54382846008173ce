-- The task that goes first, found by tests.
use Rattle.std.proofs.Common.{◌≡◌, ◌≢◌, ◌⊎◌, inl, inr, ⊎_elim, ℕ, zero, suc, ◌+◌, ◌<◌, ◌≤◌, arith, List, length, find, ℤ, ◌≤ℤ◌, ◌<ℤ◌, int_lt}
use Rattle.std.proofs.Common.{Bool, true, false, cond, ◌&&◌, ◌||◌, Option, Some, None, option_map, Decides, slice_get, refl, sym, ◌∙◌, ap, subst}
use Rattle.std.specs.List.{list_all, range_with_len}
use Rattle.std.proofs.lemmas.Bool.Decides.{Decides-and, Decides-or, Decides-like, Decides-ltb, Decides-eqb, Decides-int_eq, eqb_tells}
use Rattle.std.proofs.lemmas.Int.{ints, by_lt_z}
use Rattle.std.proofs.lemmas.List.FromFn.{get_or-map-range_with_len}
use Rattle.sfc_base.specs.declared.ids.TaskId.{TaskId}
use Rattle.sfc_plant.specs.declared.task.Task.{Task}
use Rattle.sfc_tasks.specs.declared.task_slot.TaskSlot.{TaskSlot}
use Rattle.sfc_tasks.specs.Calls.{Call}
use Rattle.sfc_tasks.specs.Releases.{waits_since}
use Rattle.sfc_tasks.specs.Pick.{Rank, RanksBefore, ranks_before, priority_in, rank_of, is_before_task, is_before_all, goes_first_since, goes_first, picked, IsPicked, NoneWaits}
use Rattle.sfc_tasks.specs.declared.ranking.Waiting.{Waiting}
use Rattle.sfc_tasks.specs.Private.Keeping.{slot_at, blank_slot, rank_at, IsFirst, FirstOf, IsBest, slot_by, slots_of}
use Rattle.sfc_tasks.proofs.Firsts.{stays_with, begins, overtakes, stays, one_before}

-- ---- the order as a test

abbrev Before : Rank → Rank → Type 0
Before a b =
    (a.priority < b.priority)
    ⊎ ((a.priority ≡ b.priority) × ((a.since <ℤ b.since) ⊎ ((a.since ≡ b.since) × (a.number < b.number))))

Decides-int_lt : (x y : ℤ) → Decides (int_lt x y) (x <ℤ y)
Decides-int_lt x y = (λ e. omega (arith, ints), by (int_lt x y) refl)
  where
    by : (t : Bool) → int_lt x y ≡ t → x <ℤ y → int_lt x y ≡ true
    by true e lt = e
    by false e lt = absurd (omega (arith, ints))

decides_before : (a b : Rank) → Decides (ranks_before a b) (Before a b)
decides_before a b =
    Decides-or _ _ (Decides-ltb a.priority b.priority)
    (Decides-and _ _ (Decides-eqb a.priority b.priority)
    (Decides-or _ _ (Decides-int_lt a.since b.since)
    (Decides-and _ _ (Decides-int_eq a.since b.since) (Decides-ltb a.number b.number))))

from_before : (a b : Rank) → Before a b → RanksBefore a b
from_before a b (inl lt) = record {
  priority = omega (arith, lt);
  since = λ same. absurd (omega (arith, lt, same));
  number = λ same equal. absurd (omega (arith, lt, same));
}
from_before a b (inr (same, inl lt)) = record {
  priority = omega (arith, same);
  since = λ _. omega (arith, ints, lt);
  number = λ _ equal. absurd (omega (arith, ints, lt, equal));
}
from_before a b (inr (same, inr (equal, lt))) = record {
  priority = omega (arith, same);
  since = λ _. omega (arith, ints, equal);
  number = λ _ _. lt;
}

below_or_same : (m n : ℕ) → m ≤ n → (m < n) ⊎ (m ≡ n)
below_or_same m n le = grind arith

below_or_same_or_above : (m n : ℕ) → (m < n) ⊎ ((m ≡ n) ⊎ (n < m))
below_or_same_or_above m n = grind arith

instant_below_or_same : (x y : ℤ) → x ≤ℤ y → (x <ℤ y) ⊎ (x ≡ y)
instant_below_or_same x y le = by_lt_z x y (λ lt. inl lt) (λ back. inr (omega (arith, ints, le, back)))

to_before : (a b : Rank) → RanksBefore a b → Before a b
to_before a b h =
    ⊎_elim inl
    (λ same.
    ⊎_elim (λ lt. inr (same, inl lt)) (λ equal. inr (same, inr (equal, h.number same equal)))
    (instant_below_or_same a.since b.since (h.since same)))
    (below_or_same a.priority b.priority h.priority)

decides_ranks : (a b : Rank) → Decides (ranks_before a b) (RanksBefore a b)
decides_ranks a b = Decides-like (ranks_before a b) (from_before a b) (to_before a b) (decides_before a b)

-- ---- numbers of a range

both : (x y : Bool) → (x && y) ≡ true → (x ≡ true) × (y ≡ true)
both x y e = grind arith

one_of : (x y : Bool) → x ≡ true → y ≡ true → (x && y) ≡ true
one_of x y e f = grind arith

module _ (p : ℕ → Bool) where
  all_numbers : (a n : ℕ) → list_all p (range_with_len a n) ≡ true → (j : ℕ) → a ≤ j → j < a + n → p j ≡ true
  all_numbers a zero e j le lt = absurd (omega (arith, le, lt))
  all_numbers a (suc n) e j le lt =
      let h = both (p a) (list_all p (range_with_len (a + 1) n)) e in
      elim (eqb_tells j a) as (λ _. p j ≡ true) [
        | inl w ↦ ap p w.1 ∙ h.0
        | inr w ↦ all_numbers (a + 1) n h.1 j (omega (arith, le, w.1)) (omega (arith, lt))
      ]

  numbers_all : (a n : ℕ) → ((j : ℕ) → a ≤ j → j < a + n → p j ≡ true) → list_all p (range_with_len a n) ≡ true
  numbers_all a zero h = refl
  numbers_all a (suc n) h =
      one_of (p a) (list_all p (range_with_len (a + 1) n)) (h a (omega arith) (omega arith))
      (numbers_all (a + 1) n (λ j le lt. h j (omega (arith, le)) (omega (arith, lt))))

  -- what the first that passes is, or that none passes
  abbrev IsFound : ℕ → ℕ → Option ℕ → Type 0
  IsFound a n None = (j : ℕ) → a ≤ j → j < a + n → p j ≡ false
  IsFound a n (Some k) = (p k ≡ true) × (a ≤ k) × (k < a + n)

  found_more : (a n : ℕ) (o : Option ℕ) → p a ≡ false → IsFound (a + 1) n o → IsFound a (suc n) o
  found_more a n None e h = λ j le lt.
      elim (eqb_tells j a) as (λ _. p j ≡ false) [
        | inl w ↦ ap p w.1 ∙ e
        | inr w ↦ h j (omega (arith, le, w.1)) (omega (arith, lt))
      ]
  found_more a n (Some k) e h = (h.0, omega (arith, h.1), omega (arith, h.2))

  found_here : (a n : ℕ) (b : Bool) → p a ≡ b → IsFound (a + 1) n (find p (range_with_len (a + 1) n))
      → IsFound a (suc n) (cond b (Some a) (find p (range_with_len (a + 1) n)))
  found_here a n true e h = (e, omega arith, omega arith)
  found_here a n false e h = found_more a n (find p (range_with_len (a + 1) n)) e h

  is_found : (a n : ℕ) → IsFound a n (find p (range_with_len a n))
  is_found a zero = λ j le lt. absurd (omega (arith, le, lt))
  is_found a (suc n) = found_here a n (p a) refl (is_found (a + 1) n)

  found_passes : (a n k : ℕ) → find p (range_with_len a n) ≡ Some k → (p k ≡ true) × (a ≤ k) × (k < a + n)
  found_passes a n k e = subst (IsFound a n) e (is_found a n)

  none_passes : (a n : ℕ) → find p (range_with_len a n) ≡ None → (j : ℕ) → a ≤ j → j < a + n → p j ≡ false
  none_passes a n e = subst (IsFound a n) e (is_found a n)

-- ---- the task that goes first

module _ (tasks : List Task) (calls : List Call) where
  -- task k, which waits since then, ranks before each other task that waits
  abbrev First : ℕ → ℤ → Type 0
  First k since =
      (j : ℕ) (other : ℤ) → j < length tasks → j ≢ k → waits_since tasks calls j ≡ Some other
      → RanksBefore (rank_of tasks k since) (rank_of tasks j other)

  test_tells : (k j : ℕ) (since other : ℤ) → is_before_task tasks (rank_of tasks k since) j (Some other) ≡ true → j ≢ k
      → RanksBefore (rank_of tasks k since) (rank_of tasks j other)
  test_tells k j since other e ne =
      elim (eqb_tells k j) as (λ _. RanksBefore (rank_of tasks k since) (rank_of tasks j other)) [
        | inl w ↦ absurd (ne (sym w.1))
        | inr w ↦
            (decides_ranks (rank_of tasks k since) (rank_of tasks j other)).0
            (subst (λ (b : Bool). (b || ranks_before (rank_of tasks k since) (rank_of tasks j other)) ≡ true) w.0 e)
      ]

  test_passes : (k j : ℕ) (since : ℤ) (o : Option ℤ)
      → ((other : ℤ) → j ≢ k → o ≡ Some other → RanksBefore (rank_of tasks k since) (rank_of tasks j other))
      → is_before_task tasks (rank_of tasks k since) j o ≡ true
  test_passes k j since None h = refl
  test_passes k j since (Some other) h =
      elim (eqb_tells k j) as (λ _. is_before_task tasks (rank_of tasks k since) j (Some other) ≡ true) [
        | inl w ↦ ap (λ (b : Bool). b || ranks_before (rank_of tasks k since) (rank_of tasks j other)) w.0
        | inr w ↦
            ap (λ (b : Bool). b || ranks_before (rank_of tasks k since) (rank_of tasks j other)) w.0
            ∙ (decides_ranks (rank_of tasks k since) (rank_of tasks j other)).1 (h other (λ e. w.1 (sym e)) refl)
      ]

  all_tell : (k : ℕ) (since : ℤ) → is_before_all tasks calls (rank_of tasks k since) ≡ true → First k since
  all_tell k since e j other lt ne waits =
      test_tells k j since other
      (subst (λ (o : Option ℤ). is_before_task tasks (rank_of tasks k since) j o ≡ true) waits
      (all_numbers (λ i. is_before_task tasks (rank_of tasks k since) i (waits_since tasks calls i)) 0 (length tasks) e j
      (omega arith) (omega (arith, lt))))
      ne

  all_pass : (k : ℕ) (since : ℤ) → First k since → is_before_all tasks calls (rank_of tasks k since) ≡ true
  all_pass k since h =
      numbers_all (λ i. is_before_task tasks (rank_of tasks k since) i (waits_since tasks calls i)) 0 (length tasks)
      (λ j _ lt. test_passes k j since (waits_since tasks calls j) (λ other ne e. h j other (omega (arith, lt)) ne e))

  first_tells : (k : ℕ) (o : Option ℤ) → waits_since tasks calls k ≡ o → k < length tasks
      → goes_first_since tasks calls k o ≡ true → IsPicked tasks calls k
  first_tells k None e lt goes = absurd cc
  first_tells k (Some since) e lt goes =
      record { number = lt; since = since; waits = e; first = all_tell k since goes }

  first_passes : (k : ℕ) → IsPicked tasks calls k → goes_first tasks calls k ≡ true
  first_passes k h = ap (goes_first_since tasks calls k) h.waits ∙ all_pass k h.since h.first

-- ---- one goes first, if one waits

some_best : (slots : List TaskSlot) (i : ℕ) (best : Option ℕ) → FirstOf slots i best → (s : ℤ)
    → (slot_at slots i).since ≡ Some s → (o : Option ℕ) × FirstOf slots (i + 1) o
some_best slots i None h s e = (Some i, begins slots i s h e)
some_best slots i (Some k) h s e =
    elim (below_or_same_or_above (slot_at slots i).priority (slot_at slots k).priority)
    as (λ _. (o : Option ℕ) × FirstOf slots (i + 1) o) [
      | inl lt ↦
          (Some i, overtakes slots i k s h.since h e h.waits (omega (arith, lt), λ same. absurd (omega (arith, lt, same))))
      | inr (inr gt) ↦
          (Some k, stays slots i k s h.since h e h.waits (omega (arith, gt), λ same. absurd (omega (arith, gt, same))))
      | inr (inl same) ↦
          by_lt_z s h.since
          (λ lt. (Some i, overtakes slots i k s h.since h e h.waits (omega (arith, same), λ _. lt)))
          (λ le. (Some k, stays slots i k s h.since h e h.waits (omega (arith, same), λ _. le)))
    ]

next_best : (slots : List TaskSlot) (i : ℕ) (best : Option ℕ) → FirstOf slots i best → (o : Option ℤ)
    → (slot_at slots i).since ≡ o → (b : Option ℕ) × FirstOf slots (i + 1) b
next_best slots i best h None e = (best, stays_with slots i best h e)
next_best slots i best h (Some s) e = some_best slots i best h s e

-- of the first n of any slots, one goes first, or none waits
best_of : (slots : List TaskSlot) (n : ℕ) → (best : Option ℕ) × FirstOf slots n best
best_of slots zero = (None, λ j lt. absurd (omega (arith, lt)))
best_of slots (suc n) =
    let h = best_of slots n in
    let one : n + 1 ≡ suc n = omega arith in
    subst (λ (m : ℕ). (best : Option ℕ) × FirstOf slots m best) one
    (next_best slots n h.0 h.1 (slot_at slots n).since refl)

module _ (tasks : List Task) (calls : List Call) where
  abbrev made : List TaskSlot
  made = slots_of tasks calls

  made_at : (k : ℕ) → k < length tasks → slot_at made k ≡ slot_by tasks calls k
  unfolding slots_of
  made_at k lt =
      get_or-map-range_with_len (slot_by tasks calls) 0 (length tasks) k k blank_slot lt (omega arith)

  pub made_since : (k : ℕ) → k < length tasks → (slot_at made k).since ≡ waits_since tasks calls k
  made_since k lt = ap (λ (p : TaskSlot). p.since) (made_at k lt)

  pub made_priority : (k : ℕ) → k < length tasks → (slot_at made k).priority ≡ priority_in (slice_get tasks k)
  made_priority k lt = ap (λ (p : TaskSlot). p.priority) (made_at k lt)

  first_made : (k : ℕ) → IsFirst made (length tasks) k → IsPicked tasks calls k
  first_made k h = record {
    number = h.number;
    since = h.since;
    waits = sym (made_since k h.number) ∙ h.waits;
    first = λ j other lt ne e.
        subst (λ (x : ℕ). RanksBefore (record { priority = x; since = h.since; number = k }) (rank_of tasks j other))
        (made_priority k h.number)
        (subst (λ (x : ℕ). RanksBefore (rank_at made k h.since) (record { priority = x; since = other; number = j }))
        (made_priority j lt) (h.first j other lt ne (made_since j lt ∙ e)));
  }

  by_best : (best : Option ℕ) → FirstOf made (length tasks) best → ((k : ℕ) × IsPicked tasks calls k) ⊎ NoneWaits tasks calls
  by_best None h = inr (λ k lt. sym (made_since k lt) ∙ h k lt)
  by_best (Some k) h = inl (k, first_made k h)

  -- what is picked where this is the best
  pub best_is_picked : (n : ℕ) (b : Waiting) → n ≡ length tasks → IsBest made n b → IsPicked tasks calls b.number
  best_is_picked n b e h = first_made b.number (subst (λ (m : ℕ). IsFirst made m b.number) e h.first)

  pub none_best : (n : ℕ) → n ≡ length tasks → FirstOf made n None → NoneWaits tasks calls
  none_best n e h k lt = sym (made_since k lt) ∙ h k (omega (arith, e, lt))

  one_or_none : ((k : ℕ) × IsPicked tasks calls k) ⊎ NoneWaits tasks calls
  one_or_none = let best = best_of made (length tasks) in by_best best.0 best.1

  -- ---- the law

  numbered : Option ℕ → Option TaskId
  numbered = option_map (λ (k : ℕ). record { 0 = k })

  from_found : (o : Option ℕ) (task : TaskId) → numbered o ≡ Some task → o ≡ Some task.0
  unfolding numbered
  from_found None task e = absurd cc
  from_found (Some k) task e = ap (option_map (λ (t : TaskId). t.0)) e

  none_found : (o : Option ℕ) → numbered o ≡ None → o ≡ None
  unfolding numbered
  none_found None e = refl
  none_found (Some k) e = absurd cc

  pub picked_is : (task : TaskId) → picked tasks calls ≡ Some task → IsPicked tasks calls task.0
  unfolding picked numbered
  picked_is task e =
      let h = found_passes (goes_first tasks calls) 0 (length tasks) task.0 (from_found _ task e) in
      first_tells tasks calls task.0 (waits_since tasks calls task.0) refl (omega (arith, h.2)) h.0

  same_picked : (k j : ℕ) → IsPicked tasks calls k → IsPicked tasks calls j → k ≡ j
  same_picked k j a b =
      elim (eqb_tells k j) as (λ _. k ≡ j) [
        | inl w ↦ w.1
        | inr w ↦
            one_before (rank_of tasks k a.since) (rank_of tasks j b.since) (a.first j b.since b.number (λ e. w.1 (sym e)) b.waits)
            (b.first k a.since a.number w.1 a.waits)
      ]

  by_found : (o : Option ℕ) → find (goes_first tasks calls) (range_with_len 0 (length tasks)) ≡ o → (k : ℕ)
      → IsPicked tasks calls k → o ≡ Some k
  by_found None e k h =
      absurd (test_differs (first_passes tasks calls k h)
      (none_passes (goes_first tasks calls) 0 (length tasks) e k (omega arith) (omega (arith, h.number))))
    where
      test_differs : goes_first tasks calls k ≡ true → goes_first tasks calls k ≡ false → ⊥
      test_differs passes fails = cc
  by_found (Some j) e k h =
      let g = found_passes (goes_first tasks calls) 0 (length tasks) j e in
      ap (λ (i : ℕ). Some i)
      (same_picked j k (first_tells tasks calls j (waits_since tasks calls j) refl (omega (arith, g.2)) g.0) h)

  pub is_picked : (task : TaskId) → IsPicked tasks calls task.0 → picked tasks calls ≡ Some task
  unfolding picked
  is_picked task h = ap (option_map (λ (k : ℕ). record { 0 = k })) (by_found _ refl task.0 h)

  pub none_waits : picked tasks calls ≡ None → NoneWaits tasks calls
  unfolding picked numbered
  none_waits e =
      ⊎_elim (λ one. absurd (some_differs (by_found _ (none_found _ e) one.0 one.1))) (λ none. none) one_or_none
    where
      some_differs : {k : ℕ} → None ≡ Some k → ⊥
      some_differs e = cc

  pub none_picked : NoneWaits tasks calls → picked tasks calls ≡ None
  none_picked none = by (picked tasks calls) refl
    where
      by : (o : Option TaskId) → picked tasks calls ≡ o → o ≡ None
      by None e = refl
      by (Some task) e = absurd (waiting_differs (picked_is task e).waits (none task.0 (picked_is task e).number))
        where
          waiting_differs : {s : ℤ} → waits_since tasks calls task.0 ≡ Some s → waits_since tasks calls task.0 ≡ None → ⊥
          waiting_differs passes fails = cc
