-- Rising keys make groups.
use Rattle.std.proofs.Common.{◌≡◌, ℕ, suc, ◌+◌, ◌-◌, ◌<◌, ◌≤◌, ◌==◌, ◌&&◌, not, Bool, true, false}
use Rattle.std.proofs.Common.{cond, List, [], ◌∷◌, length, get_or, take, refl, sym, ◌∙◌, ap, inl, inr, arith}
use Rattle.std.specs.Prelude.{map, filter, nat_le, nat_lt, slice_range, slice_index}
use Rattle.std.specs.List.{position_or_len}
use Rattle.std.specs.List.Sorted.{IsNonDecreasingBy, IsPartitionPoint, ties, IsStableByKey}
use Rattle.std.specs.Ordering.{is_lt, nat_cmp}
use Rattle.std.proofs.lemmas.Bool.Decides.{nat_tests}
use Rattle.std.proofs.lemmas.Bool.{cases_lt, cases_eq}
use Rattle.std.proofs.lemmas.List.FromFn.{length-map-range_with_len, get_or-map-range_with_len}
use Rattle.std.proofs.lemmas.List.Sums.{position_or_len_is}
use Rattle.std.specs.Fn.{Called, ComputesKey}
use Rattle.std.proofs.lemmas.Fn.{always_returns_same}
use denote.Param.Members.{Mut}
use denote.Ref.{Bor}
use Rattle.sfc_plant.specs.declared.association.Qualifier.TheVariants as qualifier
use Rattle.sfc_tables.specs.declared.step_action.StepAction.{StepAction}
use Rattle.sfc_tables.specs.Private.Grouping.{first_from, first_places, IsGrouping}

-- ---- one group's first place

pub first_is : (numbers : List ℕ) (k i : ℕ) → i ≤ length numbers
    → IsPartitionPoint (λ y. nat_lt y k ≡ true) (λ y. nat_lt y k ≡ false) numbers i → first_from numbers k ≡ i
first_is numbers k i le point =
    position_or_len_is (λ x. nat_le k x) numbers i 0 le
    (λ j lt. let y = get_or numbers j 0 in let below : nat_lt y k ≡ true = point.0 j 0 (omega arith) lt in grind (arith, nat_tests))
    (λ lt. let y = get_or numbers i 0 in let above : nat_lt y k ≡ false = point.1 i 0 (omega arith) lt in grind (arith, nat_tests))

-- ---- groups

module _ (key : StepAction → ℕ) where
  abbrev at_least : ℕ → StepAction → Bool
  at_least k x = nat_le k (key x)

  abbrev is_key : ℕ → StepAction → Bool
  is_key k x = key x == k

  first_mapped : (k : ℕ) (xs : List StepAction) → first_from (map key xs) k ≡ position_or_len (at_least k) xs
  first_mapped k [] = refl
  first_mapped k (x ∷ xs) = ap (λ n. cond (not (nat_le k (key x))) (1 + n) 0) (first_mapped k xs)

  rising_tail : (x : StepAction) (xs : List StepAction) → IsNonDecreasingBy key (x ∷ xs) → IsNonDecreasingBy key xs
  rising_tail x xs up i j d le lt = up (suc i) (suc j) d (omega arith) (omega arith)

  rising_head : (x : StepAction) (xs : List StepAction) → IsNonDecreasingBy key (x ∷ xs) → (j : ℕ) (d : StepAction) → j < length xs
      → key x ≤ key (get_or xs j d)
  rising_head x xs up j d lt = up 0 (suc j) d (omega arith) (omega arith)

  abbrev AreAtLeast : ℕ → List StepAction → Type 0
  AreAtLeast k xs = (j : ℕ) (d : StepAction) → j < length xs → k ≤ key (get_or xs j d)

  first_of_all : (k : ℕ) (xs : List StepAction) → AreAtLeast k xs → position_or_len (at_least k) xs ≡ 0
  first_of_all k [] all = refl
  first_of_all k (x ∷ xs) all = let le : k ≤ key x = all 0 x (omega arith) in
      let t : nat_le k (key x) ≡ true = grind (arith, nat_tests) in rw t refl

  none_below : (k : ℕ) (xs : List StepAction) → AreAtLeast (suc k) xs → filter (is_key k) xs ≡ []
  none_below k [] all = refl
  none_below k (x ∷ xs) all =
      let le : suc k ≤ key x = all 0 x (omega arith) in
      let t : (key x == k) ≡ false = grind (arith, nat_tests) in
      rw t (none_below k xs (λ j d lt. all (suc j) d (omega arith)))

  abbrev Group : ℕ → List StepAction → Type 0
  Group k xs = slice_range xs (position_or_len (at_least k) xs) (position_or_len (at_least (k + 1)) xs) ≡ filter (is_key k) xs

  group_is : (k : ℕ) (xs : List StepAction) → IsNonDecreasingBy key xs → Group k xs
  group_is k [] up = refl
  group_is k (x ∷ xs) up = elim (cases_lt (key x) k) [
    | inl lt ↦ (
        let a : nat_le k (key x) ≡ false = grind (arith, nat_tests) in
        let b : nat_le (k + 1) (key x) ≡ false = grind (arith, nat_tests) in
        let e : (key x == k) ≡ false = grind (arith, nat_tests) in
        let p = position_or_len (at_least k) xs in
        let q = position_or_len (at_least (k + 1)) xs in
        let n : 1 + q - (1 + p) ≡ q - p = omega arith in
        let s : 1 + p ≡ suc p = omega arith in
        rw (a, b, e, n, s) (group_is k xs (rising_tail x xs up)))
    | inr ge ↦ elim (cases_eq (key x) k) [
      | inl same ↦ (
          let a : nat_le k (key x) ≡ true = grind (arith, nat_tests) in
          let b : nat_le (k + 1) (key x) ≡ false = grind (arith, nat_tests) in
          let e : (key x == k) ≡ true = grind (arith, nat_tests) in
          let q = position_or_len (at_least (k + 1)) xs in
          let zero_first = first_of_all k xs (λ j d lt. let h = rising_head x xs up j d lt in omega arith) in
          let n : 1 + q - 0 ≡ suc q = omega arith in
          let m : q - 0 ≡ q = omega arith in
          let rest : take q xs ≡ filter (is_key k) xs = rw (zero_first, m) at (group_is k xs (rising_tail x xs up)) in
          rw (a, b, e, n) (ap (λ r. x ∷ r) rest))
      | inr other ↦ (
          let over : suc k ≤ key x = grind arith in
          let a : nat_le k (key x) ≡ true = grind (arith, nat_tests) in
          let b : nat_le (k + 1) (key x) ≡ true = grind (arith, nat_tests) in
          let e : (key x == k) ≡ false = grind (arith, nat_tests) in
          let none = none_below k xs (λ j d lt. let h = rising_head x xs up j d lt in omega arith) in
          rw (a, b, e, none) refl)
    ]
  ]

  first_rises : (k : ℕ) (xs : List StepAction) → position_or_len (at_least k) xs ≤ position_or_len (at_least (k + 1)) xs
  first_rises k [] = omega arith
  first_rises k (x ∷ xs) = elim (cases_lt (key x) k) [
    | inl lt ↦ (
        let a : nat_le k (key x) ≡ false = grind (arith, nat_tests) in
        let b : nat_le (k + 1) (key x) ≡ false = grind (arith, nat_tests) in
        let rest = first_rises k xs in
        rw (a, b) (omega arith))
    | inr ge ↦ (let a : nat_le k (key x) ≡ true = grind (arith, nat_tests) in rw a (omega arith))
  ]

  first_within : (k : ℕ) (xs : List StepAction) → position_or_len (at_least k) xs ≤ length xs
  first_within k [] = omega arith
  first_within k (x ∷ xs) = by (nat_le k (key x)) (first_within k xs)
    where
      by : (b : Bool) → position_or_len (at_least k) xs ≤ length xs → cond (not b) (1 + position_or_len (at_least k) xs) 0 ≤ suc (length xs)
      by true rest = omega arith
      by false rest = omega arith

  module _ (n : ℕ) (all members : List StepAction) (numbers starts : List ℕ) (up : IsNonDecreasingBy key members)
      (same : (k : ℕ) → filter (is_key k) members ≡ filter (is_key k) all) (read : numbers ≡ map key members)
      (firsts : starts ≡ first_places numbers n) where
    start_is : (k : ℕ) → k < n + 1 → slice_index starts k ≡ position_or_len (at_least k) members
    start_is k lt =
        ap (λ s. get_or s k 0) firsts
        ∙ get_or-map-range_with_len (first_from numbers) 0 (n + 1) k k 0 lt (omega arith)
        ∙ ap (λ l. first_from l k) read
        ∙ first_mapped k members

    pub grouping_is : IsGrouping key n all members starts
    grouping_is = record {
      sized = ap length firsts ∙ length-map-range_with_len (first_from numbers) 0 (n + 1);
      rises = λ k lt. rw (start_is k (omega arith), start_is (k + 1) (omega arith)) (first_rises k members);
      within = λ k lt. rw (start_is (k + 1) (omega arith)) (first_within (k + 1) members);
      group = λ k lt. rw (start_is k (omega arith), start_is (k + 1) (omega arith)) (group_is k members up) ∙ same k;
    }

-- ---- ties are groups

tie_tests : (m k : ℕ) → (not (is_lt (nat_cmp k m)) && not (is_lt (nat_cmp m k))) ≡ (m == k)
tie_tests m k = elim (cases_lt k m) [
  | inl lt ↦ grind (arith, nat_tests)
  | inr ge ↦ elim (cases_eq k m) [
    | inl same ↦ grind (arith, nat_tests)
    | inr other ↦ grind (arith, nat_tests)
  ]
]

-- a member of action k
abbrev of_action : ℕ → StepAction
of_action k = record { number = record { 0 = 0 }; step = record { 0 = 0 }; action = record { 0 = k }; qualifier = qualifier.NonStored }

-- a stable sort by the actions' numbers leaves the associations of each action in their order
pub stable_groups : {F : Type 0} {g : Mut F (Bor StepAction × Unit {0}) ℕ} {f : F} (xs ys : List StepAction)
    → ((key : StepAction → ℕ) → ComputesKey g key f → IsStableByKey key nat_cmp xs ys)
    → ((a : Bor StepAction × Unit {0}) (r : ℕ) (f' : F) → Called g f a r f' → (r ≡ a.0.now.action.0) × (f' ≡ f))
    → (k : ℕ) → filter (λ m. m.action.0 == k) ys ≡ filter (λ m. m.action.0 == k) xs
stable_groups {g = g} {f = f} xs ys stable h k =
    let tied : (x : StepAction)
    → filter (ties (λ x y. is_lt (nat_cmp x.action.0 y.action.0)) x) ys
    ≡ filter (ties (λ x y. is_lt (nat_cmp x.action.0 y.action.0)) x) xs =
    stable (λ m. m.action.0) (always_returns_same g (λ a r. r ≡ a.0.now.action.0) f h) in
    (λ i. filter (λ m. sym (tie_tests m.action.0 k) i) ys) ∙ tied (of_action k) ∙ (λ i. filter (λ m. tie_tests m.action.0 k i) xs)
