-- Which transitions are proposed.
use Rattle.std.proofs.Common.{◌≡◌, inl, inr, ℕ, zero, suc, ◌+◌, ◌<◌, ◌≤◌, ◌==◌, ◌||◌, Bool, true, false, cond, ℤ}
use Rattle.std.proofs.Common.{List, [], ◌∷◌, length, get_or, drop, arith, refl, sym, ◌∙◌, ap, subst}
use Rattle.std.specs.Prelude.{All, filter, replicate, slice_set, sum_by, pos, ◌≤ℤ◌, ◌^◌}
use Rattle.std.specs.List.{list_any, range_with_len}
use Rattle.std.proofs.lemmas.Bool.Decides.{nat_tests}
use Rattle.std.proofs.lemmas.Int.{ints}
use Rattle.std.proofs.lemmas.List.{length-set, length-map, length-replicate, get_or-map}
use Rattle.std.proofs.lemmas.List.Elements.{All-nil, All-cons, All-head, All-tail}
use Rattle.std.proofs.lemmas.List.FromFn.{length-range_with_len}
use Rattle.std.proofs.lemmas.List.Sums.{sum_by-cons}
use Rattle.sfc_base.specs.declared.references.StepId.{StepId}
use Rattle.sfc_flags.specs.Flags.{flag, places_from}
use Rattle.sfc_base.specs.declared.ids.TransitionId.{TransitionId}
use Rattle.sfc_tables.specs.Tables.{Tabled, AreTables, sides_at}
use Rattle.sfc_tables.specs.Places.{places_of}
use Rattle.sfc_tables.specs.Departures.{first_of, first_steps, first_step, departures}
use Rattle.sfc_evolve.specs.Clearing.{of_rank, transition_count, preceding_of, is_enabled}
use Rattle.sfc_base.specs.Instants.{AreInstants}
use Rattle.sfc_evolve.specs.Private.Keeping.{number, set_at, FieldsAgree}
use Rattle.sfc_evolve.specs.Private.Proposing.{proposed_by, AreProposed}
use Rattle.sfc_evolve.proofs.Flagged.{flag-set_at, is_member}
use Rattle.sfc_evolve.proofs.Looks.{bool_cases}
use Rattle.sfc_evolve.proofs.Next.{and_left, none_set}
use Rattle.sfc_evolve.proofs.Placed.{ranks_long}
use Rattle.sfc_evolve.proofs.TableFacts.{range_below, ranked_below, sides_below}

-- ---- members of a filtered list

filter_below : (n : ℕ) (p : ℕ → Bool) (xs : List ℕ) → All (λ x. x < n) xs → All (λ x. x < n) (filter p xs)
filter_below n p [] all = All-nil (λ x. x < n)
filter_below n p (x ∷ xs) all = by (p x) (All-head (λ x. x < n) x xs all) (filter_below n p xs (All-tail (λ x. x < n) x xs all))
  where
    by : (b : Bool) → x < n → All (λ x. x < n) (filter p xs) → All (λ x. x < n) (cond b (x ∷ filter p xs) (filter p xs))
    by true here rest = All-cons (λ x. x < n) x (filter p xs) here rest
    by false here rest = rest

or_true : (b : Bool) → (b || true) ≡ true
or_true true = refl
or_true false = refl

pub filter_has : (p : ℕ → Bool) (xs : List ℕ) (j : ℕ) → p j ≡ true → list_any (λ x. x == j) xs ≡ true
    → list_any (λ x. x == j) (filter p xs) ≡ true
filter_has p [] j on e = e
filter_has p (x ∷ xs) j on e = elim (bool_cases (x == j)) [
  | inl here ↦ (let same : x ≡ j = grind (arith, nat_tests) in
      let chosen : p x ≡ true = ap p same ∙ on in
      rw chosen (rw here refl))
  | inr other ↦ (
      let rest : list_any (λ x. x == j) xs ≡ true = rw other at e in
      by (p x) (filter_has p xs j on rest))
]
  where
    by : (b : Bool) → list_any (λ x. x == j) (filter p xs) ≡ true
        → list_any (λ x. x == j) (cond b (x ∷ filter p xs) (filter p xs)) ≡ true
    by true rest = ap (λ b. (x == j) || b) rest ∙ or_true (x == j)
    by false rest = rest

pub range_has : (a n j : ℕ) → a ≤ j → j < a + n → list_any (λ x. x == j) (range_with_len a n) ≡ true
range_has a zero j le lt = absurd (omega arith)
range_has a (suc n) j le lt = by (a == j) refl (λ more. range_has (a + 1) n j more (omega arith))
  where
    by : (b : Bool) → (a == j) ≡ b → (a + 1 ≤ j → list_any (λ x. x == j) (range_with_len (a + 1) n) ≡ true)
        → (b || list_any (λ x. x == j) (range_with_len (a + 1) n)) ≡ true
    by true e rest = refl
    by false e rest = rest (grind (arith, nat_tests))

any_of : (p : ℕ → Bool) (xs : List ℕ) (x : ℕ) → list_any (λ y. y == x) xs ≡ true → p x ≡ true → list_any p xs ≡ true
any_of p [] x e on = e
any_of p (y ∷ xs) x e on = elim (bool_cases (y == x)) [
  | inl here ↦ (let same : y ≡ x = grind (arith, nat_tests) in
      let chosen : p y ≡ true = ap p same ∙ on in
      rw chosen refl)
  | inr other ↦ (
      let rest : list_any (λ y. y == x) xs ≡ true = rw other at e in
      ap (λ b. p y || b) (any_of p xs x rest on) ∙ or_true (p y))
]

-- ---- departures

module _ (tables : Tabled) (sound : AreTables tables) where
  pub firsts_long : length (first_steps tables.sides tables.ranked) ≡ transition_count tables
  firsts_long = length-map tables.ranked (λ (tr : TransitionId). first_of (sides_at tables.sides tr).preceding) ∙ ranks_long tables sound

  pub departures_below : (n s : ℕ) → n ≡ transition_count tables → All (λ p. p < n) (departures tables s)
  departures_below n s e =
      let long : 0 + length (first_steps tables.sides tables.ranked) ≡ n = omega (arith, firsts_long, e) in
      filter_below n (λ j. get_or (first_steps tables.sides tables.ranked) j 0 == s)
      (range_with_len 0 (length (first_steps tables.sides tables.ranked)))
      (subst (λ (k : ℕ). All (λ i. i < k) (range_with_len 0 (length (first_steps tables.sides tables.ranked)))) long
      (range_below 0 (length (first_steps tables.sides tables.ranked))))

  departures_has : (j : ℕ) → j < transition_count tables → list_any (λ p. p == j) (departures tables (first_step tables j)) ≡ true
  departures_has j lt =
      filter_has (λ k. get_or (first_steps tables.sides tables.ranked) k 0 == first_step tables j)
      (range_with_len 0 (length (first_steps tables.sides tables.ranked))) j
      (let same : (first_step tables j == first_step tables j) ≡ true = grind (arith, nat_tests) in same)
      (range_has 0 (length (first_steps tables.sides tables.ranked)) j (omega arith) (omega (arith, firsts_long, lt)))

  first_step_is : (j : ℕ) → j < transition_count tables
      → first_step tables j ≡ first_of (preceding_of tables.sides (of_rank tables j))
  first_step_is j lt =
      get_or-map (λ (tr : TransitionId). first_of (sides_at tables.sides tr).preceding) tables.ranked j record { 0 = 0 } 0
      (let e = ranks_long tables sound in omega (arith, e, lt))

  or_turn : (a b c : Bool) → (a || (b || c)) ≡ ((b || a) || c)
  or_turn true true c = refl
  or_turn true false c = refl
  or_turn false true c = refl
  or_turn false false c = refl

  length-set_at : (places : List ℕ) (flags : List Bool) → length (set_at places flags) ≡ length flags
  length-set_at [] flags = refl
  length-set_at (p ∷ places) flags = length-set_at places (slice_set flags p true) ∙ length-set _ _ _

  flag-proposed_by : (steps : List ℕ) (flags : List Bool) (j : ℕ) → length flags ≡ transition_count tables
      → flag (proposed_by tables steps flags) j
      ≡ (list_any (λ s. list_any (λ p. p == j) (departures tables s)) steps || flag flags j)
  flag-proposed_by [] flags j long = refl
  flag-proposed_by (s ∷ steps) flags j long =
      flag-proposed_by steps (set_at (departures tables s) flags) j (length-set_at (departures tables s) flags ∙ long)
      ∙ ap (λ b. list_any (λ s. list_any (λ p. p == j) (departures tables s)) steps || b)
      (flag-set_at (transition_count tables) (departures tables s) flags j long (departures_below (transition_count tables) s refl))
      ∙ or_turn (list_any (λ s. list_any (λ p. p == j) (departures tables s)) steps)
      (list_any (λ p. p == j) (departures tables s)) (flag flags j)

  rank_below : (j : ℕ) → j < transition_count tables → of_rank tables j < transition_count tables
  rank_below j lt = ranked_below tables sound j record { 0 = 0 } (let e = ranks_long tables sound in omega (arith, e, lt))

  some_before : (j : ℕ) → j < transition_count tables → 0 < length (preceding_of tables.sides (of_rank tables j))
  some_before j lt = (sides_below tables sound record { 0 = of_rank tables j } (rank_below j lt)).some_preceding

  first_active : (x : ℕ → Bool) (steps : List StepId) → 0 < length steps → is_enabled x steps ≡ true → x (first_of steps) ≡ true
  first_active x [] lt e = absurd (omega (arith, lt))
  first_active x (step ∷ steps) lt e = and_left (x step.0) (is_enabled x steps) e

  -- where the departures of all active steps are proposed, all enabled transitions are
  pub proposed : (active candidates : List Bool) (n : ℕ) → n ≡ transition_count tables
      → candidates ≡ proposed_by tables (places_from active 0) (replicate n false)
      → AreProposed tables (flag active) candidates
  proposed active candidates n e is j lt on =
      let m = transition_count tables in
      let steps = preceding_of tables.sides (of_rank tables j) in
      let begins : flag active (first_step tables j) ≡ true =
      ap (flag active) (first_step_is j lt) ∙ first_active (flag active) steps (some_before j lt) on in
      let among : list_any (λ s. list_any (λ p. p == j) (departures tables s)) (places_from active 0) ≡ true =
      any_of (λ s. list_any (λ p. p == j) (departures tables s)) (places_from active 0) (first_step tables j)
      (is_member active (first_step tables j) ∙ begins) (departures_has j lt) in
      ap (λ (l : List Bool). flag l j) is
      ∙ flag-proposed_by (places_from active 0) (replicate n false) j (length-replicate n false ∙ e)
      ∙ ap (λ b. b || flag (replicate n false) j) among

  -- where no step is active none is enabled
  pub none_proposed : (n : ℕ) (candidates : List Bool) → AreProposed tables (flag (replicate n false)) candidates
  none_proposed n candidates j lt on =
      let steps = preceding_of tables.sides (of_rank tables j) in
      let begins : flag (replicate n false) (first_of steps) ≡ true =
      first_active (flag (replicate n false)) steps (some_before j lt) on in
      let bad : false ≡ true = sym (none_set n (first_of steps)) ∙ begins in
      absurd cc

-- ---- work

-- how many departures these steps have
abbrev pub share : List ℕ → ℕ → ℕ
share firsts s = length (places_of firsts s)

pub share_left : (f : ℕ → ℕ) (xs : List ℕ) (at s : ℕ) → at ≤ s → s < length xs
    → f (get_or xs s 0) + sum_by f (drop (suc s) xs) ≤ sum_by f (drop at xs)
share_left f [] at s le lt = absurd (omega arith)
share_left f (x ∷ xs) zero zero le lt = omega (arith, sum_by-cons f x xs)
share_left f (x ∷ xs) zero (suc s) le lt = omega (arith, share_left f xs 0 s (omega arith) (omega arith), sum_by-cons f x xs)
share_left f (x ∷ xs) (suc at) zero le lt = absurd (omega arith)
share_left f (x ∷ xs) (suc at) (suc s) le lt = omega (arith, share_left f xs at s (omega arith) (omega arith))

none_sum : (xs : List ℕ) → sum_by (λ s. 0) xs ≡ 0
none_sum [] = refl
none_sum (x ∷ xs) = omega (arith, none_sum xs, sum_by-cons (λ s. 0) x xs)

abbrev one : ℕ → ℕ → ℕ
one k s = cond (k == s) 1 0

one_past : (k a n : ℕ) → k < a → sum_by (one k) (range_with_len a n) ≡ 0
one_past k a zero lt = refl
one_past k a (suc n) lt =
    let apart : (k == a) ≡ false = grind (arith, nat_tests) in
    let here : one k a ≡ 0 = rw apart refl in
    omega (arith, here, one_past k (a + 1) n (omega arith), sum_by-cons (one k) a (range_with_len (a + 1) n))

one_sum : (k a n : ℕ) → sum_by (one k) (range_with_len a n) ≤ 1
one_sum k a zero = omega arith
one_sum k a (suc n) = elim (bool_cases (k == a)) [
  | inl here ↦ (
      let same : k ≡ a = grind (arith, nat_tests) in
      let share : one k a ≡ 1 = rw here refl in
      omega (arith, share, one_past k (a + 1) n (omega (arith, same)), sum_by-cons (one k) a (range_with_len (a + 1) n)))
  | inr other ↦ (
      let share : one k a ≡ 0 = rw other refl in
      omega (arith, share, one_sum k (a + 1) n, sum_by-cons (one k) a (range_with_len (a + 1) n)))
]

module _ (key : ℕ → ℕ) where
  abbrev found : List ℕ → ℕ → ℕ
  found js s = length (filter (λ j. key j == s) js)

  one_more : (j : ℕ) (js : List ℕ) (s : ℕ) → found (j ∷ js) s ≡ one (key j) s + found js s
  one_more j js s = by (key j == s)
    where
      by : (b : Bool) → length (cond b (j ∷ filter (λ j. key j == s) js) (filter (λ j. key j == s) js)) ≡ cond b 1 0 + found js s
      by true = omega arith
      by false = omega arith

  more_sum : (j : ℕ) (js xs : List ℕ) → sum_by (found (j ∷ js)) xs ≡ sum_by (one (key j)) xs + sum_by (found js) xs
  more_sum j js [] = refl
  more_sum j js (x ∷ xs) = omega (
    arith,
    one_more j js x,
    more_sum j js xs,
    sum_by-cons (found (j ∷ js)) x xs,
    sum_by-cons (one (key j)) x xs,
    sum_by-cons (found js) x xs,
  )

  -- each of these is found once at most
  found_sum : (a n : ℕ) (js : List ℕ) → sum_by (found js) (range_with_len a n) ≤ length js
  found_sum a n [] = omega (arith, none_sum (range_with_len a n))
  found_sum a n (j ∷ js) = omega (arith, found_sum a n js, more_sum j js (range_with_len a n), one_sum (key j) a n)

-- the departures of all steps are no more than the transitions
pub share_sum : (firsts : List ℕ) (n : ℕ) → sum_by (share firsts) (range_with_len 0 n) ≤ length firsts
share_sum firsts n =
    omega (arith, found_sum (λ j. get_or firsts j 0) 0 n (range_with_len 0 (length firsts)), length-range_with_len 0 (length firsts))

-- ---- before the first scan

zero_at : (n s : ℕ) → pos 0 ≡ number (replicate n (pos 0)) s
zero_at zero s = refl
zero_at (suc n) zero = refl
zero_at (suc n) (suc s) = zero_at n s

pub fresh_instants : (n : ℕ) → AreInstants (replicate n (pos 0))
fresh_instants n s =
    (subst (λ (x : ℤ). pos 0 ≤ℤ x) (zero_at n s) (omega (arith, ints)), subst (λ (x : ℤ). x ≤ℤ pos (2 ^ 62)) (zero_at n s) (omega (arith, ints)))

pub fresh : (tables : Tabled) (n m : ℕ) (active : List Bool) (since held_times : List ℤ) (cleared on : List Bool)
    → active ≡ replicate n false → held_times ≡ replicate n (pos 0) → cleared ≡ replicate m false → on ≡ replicate n false
    → FieldsAgree tables false active since held_times cleared on []
fresh tables n m active since held_times cleared on ea ek ec eo = record {
  has_begun = refl;
  activity = λ s lt. ap (λ (l : List Bool). flag l s) ea ∙ none_set n s;
  time = λ s lt now. rw (ea, ek, none_set n s) (zero_at n s);
  clearing = λ tr. ap (λ (l : List Bool). flag l tr) ec ∙ none_set m tr;
  activation = λ s lt. ap (λ (l : List Bool). flag l s) eo ∙ none_set n s;
}
