-- There is one rank order, and `rank_order` is it.
use Rattle.std.proofs.Common.{◌≡◌, ℕ, suc, zero, ◌+◌, ◌<◌, Bool, true, false, List, []}
use Rattle.std.proofs.Common.{◌∷◌, length, ◌∙◌, refl, sym, inl, inr, arith, subst}
use mathlib.Core.Logic.{◌⊎◌, ◌↔◌}
use Rattle.std.specs.Prelude.{map, All, AllPairs, Option, if◌then◌else◌}
use Rattle.std.specs.List.{Contains, range_with_len}
use Rattle.std.specs.List.Sorted.{IsPermutation}
use Rattle.std.proofs.lemmas.Bool.{cases_lt}
use Rattle.std.proofs.lemmas.Bool.Decides.{nat_tests}
use Rattle.std.proofs.lemmas.List.Elements.{All-nil, All-cons, All-contains, All-weaker}
use Rattle.std.proofs.lemmas.List.Kept.{AllPairs-cons}
use Rattle.std.proofs.lemmas.List.Sorted.{IsPermutation-refl, IsPermutation-sym, IsPermutation-trans, IsPermutation-cons}
use Rattle.std.proofs.lemmas.List.Sorted.{IsPermutation-middle, All-permutation, Contains-permutation}
use Rattle.sfc_base.specs.declared.ids.TransitionId.{TransitionId}
use Rattle.sfc_tables.specs.Ranks.{key_of, RanksBefore, ranks_before, transitions_to, IsRankOrder}
use Rattle.sfc_tables.specs.Ranks.{insert_by_rank, sort_by_rank, rank_order}
use Rattle.sfc_tables.proofs.Rankings.{id_of}

module _ {X : Type 0} (R : X → X → Type 0) where
  pairs_head : (x : X) (xs : List X) → AllPairs R (x ∷ xs) → All (R x) xs
  pairs_head x xs pairs k d lt = pairs zero (suc k) d (omega arith) (omega arith)

  pairs_tail : (x : X) (xs : List X) → AllPairs R (x ∷ xs) → AllPairs R xs
  pairs_tail x xs pairs i j d lt within = pairs (suc i) (suc j) d (omega arith) (omega arith)

module _ {X : Type 0} where
  first_or_later : (x z : X) (xs : List X) → Contains (x ∷ xs) z → (x ≡ z) ⊎ Contains xs z
  first_or_later x z xs (zero, lt, is) = inl is
  first_or_later x z xs (suc k, lt, is) = inr (k, omega arith, is)

  first_in : (x : X) (xs : List X) → Contains (x ∷ xs) x
  first_in x xs = (zero, omega arith, refl)

  later_in : (x z : X) (xs : List X) → Contains xs z → Contains (x ∷ xs) z
  later_in x z xs c = (suc c.0, omega (arith, c.1), c.2)

-- Two lists with the same elements are one, where each has its elements in an order that holds one way only.
module _ {X : Type 0} (R : X → X → Type 0) (apart : (x y : X) → R x y → R y x → ⊥) where
  same_first : (x y : X) (xs ys : List X) → All (R x) xs → All (R y) ys
      → Contains (y ∷ ys) x → Contains (x ∷ xs) y → x ≡ y
  same_first x y xs ys before after there back =
      elim (first_or_later y x ys there) [
        | inl same ↦ sym same
        | inr later ↦ elim (first_or_later x y xs back) [
          | inl same ↦ same
          | inr far ↦ absurd (apart x y (All-contains (R x) xs y before far) (All-contains (R y) ys x after later))
        ]
      ]

  -- what comes after the first of one list comes after the first of the other
  later_too : (x y z : X) (xs ys : List X) → x ≡ y → All (R x) xs → Contains xs z → Contains (y ∷ ys) z → Contains ys z
  later_too x y z xs ys same before here there =
      let r : R x z = All-contains (R x) xs z before here in
      elim (first_or_later y z ys there) [
        | inl e ↦ absurd (let r' : R z z = subst (λ w. R w z) (same ∙ e) r in apart z z r' r')
        | inr later ↦ later
      ]

  one_order : (xs ys : List X) → AllPairs R xs → AllPairs R ys
      → ((z : X) → Contains xs z → Contains ys z) → ((z : X) → Contains ys z → Contains xs z) → xs ≡ ys
  one_order [] [] a b there back = refl
  one_order [] (y ∷ ys) a b there back = let none = back y (first_in y ys) in absurd (omega (arith, none.1))
  one_order (x ∷ xs) [] a b there back = let none = there x (first_in x xs) in absurd (omega (arith, none.1))
  one_order (x ∷ xs) (y ∷ ys) a b there back =
      let before = pairs_head R x xs a in
      let after = pairs_head R y ys b in
      let same : x ≡ y = same_first x y xs ys before after (there x (first_in x xs)) (back y (first_in y ys)) in
      let rest : xs ≡ ys = one_order xs ys (pairs_tail R x xs a) (pairs_tail R y ys b)
      (λ z c. later_too x y z xs ys same before c (there z (later_in x z xs c)))
      (λ z c. later_too y x z ys xs (sym same) after c (back z (later_in y z ys c))) in
      cc

module _ (priorities : List (Option ℕ)) where
  abbrev Before : TransitionId → TransitionId → Type 0
  Before a b = RanksBefore priorities a b

  not_both : (a b : TransitionId) → Before a b → Before b a → ⊥
  not_both a b (inl p) (inl q) = omega arith
  not_both a b (inl p) (inr q) = omega (arith, q.0)
  not_both a b (inr p) (inl q) = omega (arith, p.0)
  not_both a b (inr p) (inr q) = omega (arith, p.1, q.1)

  through : (a b c : TransitionId) → Before a b → Before b c → Before a c
  through a b c (inl p) (inl q) = inl (omega arith)
  through a b c (inl p) (inr q) = inl (omega (arith, q.0))
  through a b c (inr p) (inl q) = inl (omega (arith, p.0))
  through a b c (inr p) (inr q) = inr (p.0 ∙ q.0, omega (arith, p.1, q.1))

  -- the test says what the relation says
  test_true : (a b : TransitionId) → ranks_before priorities a b ≡ true → Before a b
  test_true a b e = elim (cases_lt (key_of priorities a) (key_of priorities b)) [
    | inl less ↦ inl less
    | inr ge ↦ inr (grind (arith, nat_tests), grind (arith, nat_tests))
  ]

  true_test : (a b : TransitionId) → Before a b → ranks_before priorities a b ≡ true
  true_test a b (inl p) = grind (arith, nat_tests)
  true_test a b (inr p) = grind (arith, nat_tests)

  pub test_says : (a b : TransitionId) → (ranks_before priorities a b ≡ true) ↔ RanksBefore priorities a b
  test_says a b = (test_true a b, true_test a b)

  -- of two in text order, the second ranks first where the test fails
  test_false : (a b : TransitionId) → a.0 < b.0 → ranks_before priorities a b ≡ false → Before b a
  test_false a b lt e = inl (grind (arith, nat_tests))

  insert_permutes : (a : TransitionId) (ranked : List TransitionId) → IsPermutation (a ∷ ranked) (insert_by_rank priorities a ranked)
  insert_permutes a [] = IsPermutation-refl (a ∷ [])
  insert_permutes a (b ∷ ranked) =
      elim (ranks_before priorities a b) as
      (λ t. IsPermutation (a ∷ b ∷ ranked) (if t then a ∷ b ∷ ranked else b ∷ insert_by_rank priorities a ranked)) [
        | true ↦ IsPermutation-refl (a ∷ b ∷ ranked)
        | false ↦
            IsPermutation-trans _ _ _ (IsPermutation-sym _ _ (IsPermutation-middle (b ∷ []) a ranked))
            (IsPermutation-cons b _ _ (insert_permutes a ranked))
      ]

  sort_permutes : (transitions : List TransitionId) → IsPermutation transitions (sort_by_rank priorities transitions)
  sort_permutes [] = IsPermutation-refl []
  sort_permutes (a ∷ transitions) =
      IsPermutation-trans _ _ _ (IsPermutation-cons a _ _ (sort_permutes transitions))
      (insert_permutes a (sort_by_rank priorities transitions))

  -- a stands before all of these in the text
  abbrev First : TransitionId → List TransitionId → Type 0
  First a transitions = All (λ (b : TransitionId). a.0 < b.0) transitions

  -- in front of these, or after the first of them
  front : (a b : TransitionId) (ranked : List TransitionId) → Before a b → AllPairs Before (b ∷ ranked)
      → AllPairs Before (a ∷ b ∷ ranked)
  front a b ranked r sorted =
      let after : All (Before b) ranked = pairs_head Before b ranked sorted in
      AllPairs-cons Before a (b ∷ ranked)
      (All-cons (Before a) b ranked r (All-weaker (Before b) (Before a) (λ c q. through a b c r q) ranked after)) sorted

  behind : (a b : TransitionId) (ranked : List TransitionId) → Before b a → AllPairs Before (b ∷ ranked)
      → AllPairs Before (insert_by_rank priorities a ranked) → AllPairs Before (b ∷ insert_by_rank priorities a ranked)
  behind a b ranked r sorted rest =
      let after : All (Before b) ranked = pairs_head Before b ranked sorted in
      AllPairs-cons Before b (insert_by_rank priorities a ranked)
      (All-permutation (Before b) (a ∷ ranked) (insert_by_rank priorities a ranked) (insert_permutes a ranked)
      (All-cons (Before b) a ranked r after))
      rest

  -- as the test says
  either : (a b : TransitionId) (ranked : List TransitionId) (t : Bool) → ranks_before priorities a b ≡ t → a.0 < b.0
      → AllPairs Before (b ∷ ranked) → AllPairs Before (insert_by_rank priorities a ranked)
      → AllPairs Before (if t then a ∷ b ∷ ranked else b ∷ insert_by_rank priorities a ranked)
  either a b ranked true e lt sorted rest = front a b ranked (test_true a b e) sorted
  either a b ranked false e lt sorted rest = behind a b ranked (test_false a b lt e) sorted rest

  insert_sorts : (a : TransitionId) (ranked : List TransitionId) → First a ranked → AllPairs Before ranked
      → AllPairs Before (insert_by_rank priorities a ranked)
  insert_sorts a [] first sorted = AllPairs-cons Before a [] (All-nil (Before a)) sorted
  insert_sorts a (b ∷ ranked) first sorted =
      either a b ranked (ranks_before priorities a b) refl (first zero a (omega arith)) sorted
      (insert_sorts a ranked (λ k d lt. first (suc k) d (omega arith)) (pairs_tail Before b ranked sorted))

  from_place : (i j n : ℕ) (a : TransitionId) → a.0 ≡ i → i < j → First a (map id_of (range_with_len j n))
  from_place i j zero a is lt = All-nil (λ (b : TransitionId). a.0 < b.0)
  from_place i j (suc n) a is lt =
      All-cons (λ (b : TransitionId). a.0 < b.0) (id_of j) (map id_of (range_with_len (j + 1) n)) (omega (arith, is))
      (from_place i (j + 1) n a is (omega arith))

  sort_sorts : (i n : ℕ) → AllPairs Before (sort_by_rank priorities (map id_of (range_with_len i n)))
  sort_sorts i zero = λ j k d lt within. absurd (omega arith)
  sort_sorts i (suc n) =
      let rest : List TransitionId = map id_of (range_with_len (i + 1) n) in
      insert_sorts (id_of i) (sort_by_rank priorities rest)
      (All-permutation (λ (b : TransitionId). i < b.0) rest (sort_by_rank priorities rest) (sort_permutes rest)
      (from_place i (i + 1) n (id_of i) refl (omega arith)))
      (sort_sorts (i + 1) n)

  pub rank_order_ranks : IsRankOrder priorities (rank_order priorities)
  unfolding rank_order
  rank_order_ranks = record {
    all = sort_permutes (transitions_to (length priorities));
    sorted = sort_sorts 0 (length priorities);
  }

  same_elements : (a b : List TransitionId) → IsRankOrder priorities a → IsRankOrder priorities b
      → (z : TransitionId) → Contains a z → Contains b z
  same_elements a b p q z c =
      Contains-permutation a b z (IsPermutation-trans _ _ _ (IsPermutation-sym _ _ p.all) q.all) c

  one_rank_order : (a b : List TransitionId) → IsRankOrder priorities a → IsRankOrder priorities b → a ≡ b
  one_rank_order a b p q = one_order Before not_both a b p.sorted q.sorted (same_elements a b p q) (same_elements b a q p)

  pub ranked_is : (ranked : List TransitionId) → IsRankOrder priorities ranked → ranked ≡ rank_order priorities
  ranked_is ranked p = one_rank_order ranked (rank_order priorities) p rank_order_ranks
