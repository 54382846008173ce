-- Lists with one element changed.
use Rattle.std.proofs.Common.{◌≡◌, ◌≢◌, ◌⊎◌, inl, inr, ℕ, zero, suc, ◌+◌, ◌<◌, ◌==◌, ◌||◌, arith, Bool, true, false, cond, List, [], ◌∷◌, ◌++◌, length, take, slice_index_or, slice_set, count_by, refl, sym, ◌∙◌, ap}
use Rattle.std.specs.List.{list_any}
use Rattle.std.proofs.lemmas.Bool.Decides.{eqb_tells}
use Rattle.std.proofs.lemmas.List.{take_more_set}
use Rattle.std.proofs.lemmas.List.Folds.{list_any-append}
use Rattle.std.proofs.lemmas.List.Sums.{sum_by-set, sum_by-cons, count_by-le-length}
use Rattle.std.proofs.Math.Seq.{take-suc}
use Rattle.sfc_image.specs.Private.Keeping.{number_at, is_listed}

pub bool_cases : (b : Bool) → (b ≡ true) ⊎ (b ≡ false)
bool_cases true = inl refl
bool_cases false = inr refl

-- as many pass after a change that leaves the test of an element
pub count_same : {X : Type 0} (p : X → Bool) (xs : List X) (i : ℕ) (y d : X) → i < length xs → p y ≡ p (slice_index_or xs i d)
    → count_by p (slice_set xs i y) ≡ count_by p xs
count_same p xs i y d lt e =
    let sum = sum_by-set (λ x. cond (p x) 1 0) xs i y d lt in
    let same = ap {B = ℕ} (λ (b : Bool). cond b 1 0) e in
    omega (arith, sum, same)

-- one more, where the element did not pass and now does
pub count_more : {X : Type 0} (p : X → Bool) (xs : List X) (i : ℕ) (y d : X) → i < length xs → p (slice_index_or xs i d) ≡ false
    → p y ≡ true → count_by p (slice_set xs i y) ≡ count_by p xs + 1
count_more p xs i y d lt off on =
    let sum = sum_by-set (λ x. cond (p x) 1 0) xs i y d lt in
    let before = ap {B = ℕ} (λ (b : Bool). cond b 1 0) off in
    let after = ap {B = ℕ} (λ (b : Bool). cond b 1 0) on in
    omega (arith, sum, before, after)

count_first : {X : Type 0} (p : X → Bool) (x : X) (xs : List X) (b : Bool) → p x ≡ b
    → count_by p (x ∷ xs) ≡ cond b 1 0 + count_by p xs
count_first p x xs b e =
    sum_by-cons (λ x. cond (p x) 1 0) x xs ∙ ap {B = ℕ} (λ (c : Bool). cond c 1 0 + count_by p xs) e

-- where an element does not pass, not all do
pub count_capacity : {X : Type 0} (p : X → Bool) (xs : List X) (i : ℕ) (d : X) → i < length xs → p (slice_index_or xs i d) ≡ false
    → count_by p xs < length xs
count_capacity p [] i d lt off = absurd (omega arith)
count_capacity p (x ∷ xs) zero d lt off =
    let first : count_by p (x ∷ xs) ≡ 0 + count_by p xs = count_first p x xs false off in
    omega (arith, first, count_by-le-length p xs)
count_capacity p (x ∷ xs) (suc i) d lt off =
    let rest : count_by p xs < length xs = count_capacity p xs i d (omega arith) off in
    elim (bool_cases (p x)) as (λ _. count_by p (x ∷ xs) < length (x ∷ xs)) [
      | inl w ↦
          let first : count_by p (x ∷ xs) ≡ 1 + count_by p xs = count_first p x xs true w in omega (arith, first, rest)
      | inr w ↦
          let first : count_by p (x ∷ xs) ≡ 0 + count_by p xs = count_first p x xs false w in omega (arith, first, rest)
    ]

-- where no element passes
pub count_none : {X : Type 0} (p : X → Bool) (xs : List X) (d : X) → ((i : ℕ) → i < length xs → p (slice_index_or xs i d) ≡ false)
    → count_by p xs ≡ 0
count_none p [] d none = refl
count_none p (x ∷ xs) d none =
    let first : count_by p (x ∷ xs) ≡ 0 + count_by p xs = count_first p x xs false (none 0 (omega arith)) in
    let rest : count_by p xs ≡ 0 = count_none p xs d (λ i lt. none (suc i) (omega arith)) in
    omega (arith, first, rest)

or_false : (b : Bool) → (b || false) ≡ b
or_false true = refl
or_false false = refl

pub or_left : (a b : Bool) → a ≡ true → (a || b) ≡ true
or_left true b e = refl
or_left false b e = absurd cc

pub or_right : (a b : Bool) → b ≡ true → (a || b) ≡ true
or_right true b e = refl
or_right false b e = e

pub or_cases : (a b : Bool) → (a || b) ≡ true → (a ≡ true) ⊎ (b ≡ true)
or_cases true b e = inl refl
or_cases false b e = inr e

-- one number more
pub listed_more : (numbers : List ℕ) (n i : ℕ) → n < length numbers
    → is_listed numbers (n + 1) i ≡ (is_listed numbers n i || (number_at numbers n == i))
listed_more numbers n i lt =
    let more : n + 1 ≡ suc n = omega arith in
    let front : take (n + 1) numbers ≡ take n numbers ++ number_at numbers n ∷ [] =
    ap (λ (k : ℕ). take k numbers) more ∙ take-suc numbers n 0 lt in
    ap (λ (xs : List ℕ). list_any (λ number. number == i) xs) front
    ∙ list_any-append (λ number. number == i) (take n numbers) (number_at numbers n ∷ [])
    ∙ ap (λ (b : Bool). is_listed numbers n i || b) (or_false (number_at numbers n == i))

pub listed_set : (numbers : List ℕ) (n k i : ℕ) → n < length numbers
    → is_listed (slice_set numbers n k) (n + 1) i ≡ (is_listed numbers n i || (k == i))
listed_set numbers n k i lt =
    ap (λ (xs : List ℕ). list_any (λ number. number == i) xs) (take_more_set numbers n k lt)
    ∙ list_any-append (λ number. number == i) (take n numbers) (k ∷ [])
    ∙ ap (λ (b : Bool). is_listed numbers n i || b) (or_false (k == i))

pub same_number : (k : ℕ) → (k == k) ≡ true
same_number k =
    elim (eqb_tells k k) as (λ _. (k == k) ≡ true) [ inl w ↦ w.0 | inr w ↦ absurd (w.1 refl) ]

pub equal_numbers : (k i : ℕ) → (k == i) ≡ true → k ≡ i
equal_numbers k i e =
    elim (eqb_tells k i) as (λ _. k ≡ i) [ inl w ↦ w.1 | inr w ↦ absurd (let f = w.0 in cc) ]

pub other_numbers : (k i : ℕ) → i ≢ k → (k == i) ≡ false
other_numbers k i ne =
    elim (eqb_tells k i) as (λ _. (k == i) ≡ false) [ inl w ↦ absurd (ne (sym w.1)) | inr w ↦ w.0 ]
