-- A walk over the set places, and the elements of each, gathers what all elements give whose place is set, in whatever
-- order they stand.
use Rattle.std.proofs.Common.{◌≡◌, ℕ, zero, suc, ◌+◌, ◌<◌, ◌==◌, Bool, true, false, cond, List, [], ◌∷◌, arith, refl, sym, ◌∙◌, ap}
use Rattle.std.specs.Prelude.{filter}
use Rattle.std.proofs.lemmas.Bool.Decides.{nat_tests}
use Rattle.sfc_flags.specs.Flags.{flag, set_from, places_from}

-- a way to put things together, in whatever order
pub record Gathering (M : Type 0) : Type 0 where
  pub join : M → M → M
  pub unit : M
  pub unit_left : (x : M) → join unit x ≡ x
  pub comm : (x y : M) → join x y ≡ join y x
  pub assoc : (x y z : M) → join (join x y) z ≡ join x (join y z)

module _ {M : Type 0} (g : Gathering M) where
  -- what the elements give together
  abbrev pub total : {A : Type 0} → (A → M) → List A → M
  total f [] = g.unit
  total f (x ∷ xs) = g.join (f x) (total f xs)

  units : {A : Type 0} (xs : List A) → total (λ x. g.unit) xs ≡ g.unit
  units [] = refl
  units (x ∷ xs) = g.unit_left _ ∙ units xs

  swap : (a b c d : M) → g.join (g.join a b) (g.join c d) ≡ g.join (g.join a c) (g.join b d)
  swap a b c d =
      g.assoc a b (g.join c d) ∙ ap (g.join a) (sym (g.assoc b c d) ∙ ap (λ x. g.join x d) (g.comm b c) ∙ g.assoc c b d)
      ∙ sym (g.assoc a c (g.join b d))

  both : {A : Type 0} (f k : A → M) (xs : List A) → total (λ x. g.join (f x) (k x)) xs ≡ g.join (total f xs) (total k xs)
  both f k [] = sym (g.unit_left g.unit)
  both f k (x ∷ xs) = ap (g.join (g.join (f x) (k x))) (both f k xs) ∙ swap (f x) (k x) (total f xs) (total k xs)

  pub same : {A : Type 0} (f k : A → M) (xs : List A) → ((x : A) → f x ≡ k x) → total f xs ≡ total k xs
  same f k [] e = refl
  same f k (x ∷ xs) e = (λ i. g.join (e x i) (same f k xs e i))

  -- of one place
  none_below : (v : M) (i k : ℕ) (flags : List Bool) → k < i → total (λ s. cond (k == s) v g.unit) (set_from i flags) ≡ g.unit
  none_below v i k [] lt = refl
  none_below v i k (true ∷ flags) lt = let e : (k == i) ≡ false = grind (arith, nat_tests) in
      rw e (g.unit_left _ ∙ none_below v (suc i) k flags (omega arith))
  none_below v i k (false ∷ flags) lt = none_below v (suc i) k flags (omega arith)

  pub unit_right : (x : M) → g.join x g.unit ≡ x
  unit_right x = g.comm x g.unit ∙ g.unit_left x

  single_from : (v : M) (i m k : ℕ) (flags : List Bool) → k ≡ i + m
      → total (λ s. cond (k == s) v g.unit) (set_from i flags) ≡ cond (flag flags m) v g.unit
  single_from v i m k [] e = refl
  single_from v i zero k (true ∷ flags) e = let t : (k == i) ≡ true = grind (arith, nat_tests) in
      rw t (ap (g.join v) (none_below v (suc i) k flags (omega arith)) ∙ unit_right v)
  single_from v i zero k (false ∷ flags) e = none_below v (suc i) k flags (omega arith)
  single_from v i (suc m) k (true ∷ flags) e = let t : (k == i) ≡ false = grind (arith, nat_tests) in
      rw t (g.unit_left _ ∙ single_from v (suc i) m k flags (omega arith))
  single_from v i (suc m) k (false ∷ flags) e = single_from v (suc i) m k flags (omega arith)

  module _ {A : Type 0} (place : A → ℕ) (f : A → M) where
    -- the elements of a place
    abbrev pub at_place : List A → ℕ → List A
    at_place xs s = filter (λ x. place x == s) xs

    total_cond : (b : Bool) (x : A) (xs : List A) → total f (cond b (x ∷ xs) xs) ≡ g.join (cond b (f x) g.unit) (total f xs)
    total_cond true x xs = refl
    total_cond false x xs = sym (g.unit_left _)

    pub walked : (xs : List A) (flags : List Bool)
        → total (λ s. total f (at_place xs s)) (places_from flags 0) ≡ total (λ x. cond (flag flags (place x)) (f x) g.unit) xs
    walked [] flags = units (places_from flags 0)
    walked (x ∷ xs) flags =
        same (λ s. total f (at_place (x ∷ xs) s)) (λ s. g.join (cond (place x == s) (f x) g.unit) (total f (at_place xs s)))
        (places_from flags 0) (λ s. total_cond (place x == s) x (at_place xs s))
        ∙ both (λ s. cond (place x == s) (f x) g.unit) (λ s. total f (at_place xs s)) (places_from flags 0)
        ∙ (λ i. g.join (single_from (f x) 0 (place x) (place x) flags (omega arith) i) (walked xs flags i))
