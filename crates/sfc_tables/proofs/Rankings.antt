-- Pairs of a key and a place, sorted, give the rank order.
use Rattle.std.proofs.Common.{◌≡◌, ℕ, suc, zero, ◌+◌, ◌<◌, ◌≤◌, ◌==◌, Bool, false, List, []}
use Rattle.std.proofs.Common.{◌∷◌, ◌++◌, length, get_or, ◌∙◌, ap, refl, sym, inl, inr, arith, subst}
use mathlib.Core.Logic.{◌⊎◌}
use Rattle.std.specs.Prelude.{map, All, Option, None, nat_eq}
use Rattle.std.specs.Ordering.{is_lt, nat_cmp, ordering_then}
use Rattle.std.specs.List.{IsDistinct, AllByRecursion, range_with_len}
use Rattle.std.proofs.lemmas.List.Elements.{All-nil, All-cons, All-get_or}
use Rattle.std.proofs.lemmas.List.{append_assoc, length-append, length-map, get_or_at, get_or-map}
use Rattle.std.specs.List.Sorted.{IsPermutation, IsSortedBy}
use Rattle.std.proofs.lemmas.Bool.{cases_lt, cases_eq, ne_eqb, eqb-false}
use Rattle.std.proofs.lemmas.Bool.Decides.{nat_tests}
use Rattle.std.proofs.lemmas.Cmp.{then_total, on_total, nat_cmp_total}
use Rattle.std.proofs.lemmas.List.MinMax.{ranks_by}
use Rattle.std.proofs.lemmas.List.Sorted.{sorted_far, All-permutation, IsPermutation-map}
use Rattle.std.proofs.lemmas.Map.Keys.{IsDistinct-IsPermutation, apart_from_distinct}
use Rattle.sfc_base.specs.declared.ids.TransitionId.{TransitionId}
use Rattle.sfc_tables.specs.Ranks.{key, RanksBefore, transitions_to, IsRankOrder}

abbrev pub pairs : ℕ → List (Option ℕ) → List (ℕ × ℕ)
pairs i [] = []
pairs i (p ∷ priorities) = (key p, i) ∷ pairs (i + 1) priorities

abbrev pub place_of : ℕ × ℕ → TransitionId
place_of x = record { 0 = x.1 }

abbrev pub id_of : ℕ → TransitionId
id_of i = record { 0 = i }

abbrev number : TransitionId → ℕ
number id = id.0

abbrev below : ℕ × ℕ → ℕ × ℕ → Bool
below x y = is_lt (ordering_then (nat_cmp x.0 y.0) (nat_cmp x.1 y.1))

places-pairs : (i : ℕ) (priorities : List (Option ℕ)) → map place_of (pairs i priorities) ≡ map id_of (range_with_len i (length priorities))
places-pairs i [] = refl
places-pairs i (p ∷ priorities) = ap (λ xs. id_of i ∷ xs) (places-pairs (i + 1) priorities)

-- each pair has its place's key
abbrev Keyed : List (Option ℕ) → ℕ × ℕ → Type 0
Keyed priorities x = x.0 ≡ key (get_or priorities x.1 None)

-- ascending pairs, where the second is not below the first
ordered : (x y : ℕ × ℕ) → below y x ≡ false → (x.0 < y.0) ⊎ ((x.0 ≡ y.0) × (x.1 ≤ y.1))
ordered x y e = elim (cases_lt x.0 y.0) [
  | inl lt ↦ inl lt
  | inr ge ↦ elim (cases_eq x.0 y.0) [
    | inl same ↦ inr (same, grind (arith, nat_tests))
    | inr other ↦ absurd (grind (arith, nat_tests))
  ]
]

keyed : (before priorities : List (Option ℕ)) → All (Keyed (before ++ priorities)) (pairs (length before) priorities)
keyed before [] = All-nil (Keyed (before ++ []))
keyed before (p ∷ priorities) =
    let e : (before ++ p ∷ []) ++ priorities ≡ before ++ p ∷ priorities = append_assoc before (p ∷ []) priorities in
    let n : length (before ++ p ∷ []) ≡ length before + 1 = omega (arith, length-append before (p ∷ [])) in
    let rest : All (Keyed (before ++ p ∷ priorities)) (pairs (length before + 1) priorities) =
    rw (e, n) at (keyed (before ++ p ∷ []) priorities) in
    All-cons (Keyed (before ++ p ∷ priorities)) (key p, length before) (pairs (length before + 1) priorities)
    (rw (get_or_at before p priorities None (length before) refl) refl) rest

far : (j i n : ℕ) → j < i → AllByRecursion (λ y. (j == y) ≡ false) (range_with_len i n)
far j i zero lt = tt
far j i (suc n) lt = (ne_eqb j i (λ same. omega arith), far j (i + 1) n (omega arith))

distinct : (i n : ℕ) → IsDistinct nat_eq (range_with_len i n)
unfolding IsDistinct
distinct i zero = tt
distinct i (suc n) = (far i (i + 1) n (omega arith), distinct (i + 1) n)

flips : (x y : ℕ) → nat_eq x y ≡ nat_eq y x
flips x y = grind (arith, nat_tests)

numbers_back : (xs : List ℕ) → map number (map id_of xs) ≡ xs
numbers_back [] = refl
numbers_back (x ∷ xs) = ap (λ r. x ∷ r) (numbers_back xs)

module _ (priorities : List (Option ℕ)) (xs : List (ℕ × ℕ)) (order : List TransitionId) (moved : IsPermutation (pairs 0 priorities) xs)
    (up : IsSortedBy below xs) (e : order ≡ map place_of xs) where
  same_places : IsPermutation (transitions_to (length priorities)) order
  same_places = subst (IsPermutation (transitions_to (length priorities))) (sym e)
      (rw (places-pairs 0 priorities) at (IsPermutation-map place_of (pairs 0 priorities) xs moved))

  numbers : IsPermutation (range_with_len 0 (length priorities)) (map number order)
  numbers = rw (numbers_back (range_with_len 0 (length priorities))) at
      (IsPermutation-map number (transitions_to (length priorities)) order same_places)

  in_order : (i j : ℕ) (d : TransitionId) → i < j → j < length order → RanksBefore priorities (get_or order i d) (get_or order j d)
  in_order i j d lt within =
      let n : length order ≡ length xs = ap length e ∙ length-map xs place_of in
      let x : ℕ × ℕ = get_or xs i (0, 0) in
      let y : ℕ × ℕ = get_or xs j (0, 0) in
      let a : get_or order i d ≡ place_of x = ap (λ l. get_or l i d) e ∙ get_or-map place_of xs i (0, 0) d (omega arith) in
      let b : get_or order j d ≡ place_of y = ap (λ l. get_or l j d) e ∙ get_or-map place_of xs j (0, 0) d (omega arith) in
      let all : All (Keyed priorities) xs = All-permutation (Keyed priorities) (pairs 0 priorities) xs moved (keyed [] priorities) in
      let p : x.0 ≡ key (get_or priorities x.1 None) = All-get_or (Keyed priorities) xs i (0, 0) (omega arith) all in
      let q : y.0 ≡ key (get_or priorities y.1 None) = All-get_or (Keyed priorities) xs j (0, 0) (omega arith) all in
      let long : length (map number order) ≡ length order = length-map order number in
      let apart : nat_eq (get_or (map number order) i 0) (get_or (map number order) j 0) ≡ false =
      apart_from_distinct nat_eq (map number order) i j 0
      (IsDistinct-IsPermutation nat_eq flips (range_with_len 0 (length priorities)) (map number order) numbers
      (distinct 0 (length priorities))) lt (omega arith) in
      let later : below y x ≡ false =
      sorted_far below (ranks_by (then_total (on_total (λ t. t.0) nat_cmp_total) (on_total (λ t. t.1) nat_cmp_total)) (λ t. t))
      xs up i j (0, 0) (omega arith) (omega arith) in
      rw (a, b) (elim (ordered x y later) [
        | inl less ↦ inl (omega arith)
        | inr same ↦ inr (
          sym p ∙ same.0 ∙ q,
          elim (cases_lt x.1 y.1) [
            | inl less ↦ less
            | inr ge ↦ absurd (eqb-false x.1 y.1
                (rw (get_or-map number order i d 0 (omega arith), get_or-map number order j d 0 (omega arith), a, b) at apart)
                (omega (arith, same.1)))
          ],
        )
      ])

  pub rank_order_is : IsRankOrder priorities order
  rank_order_is = record { all = same_places; sorted = in_order }
