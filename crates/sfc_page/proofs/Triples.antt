-- The table of the digits of numbers below a thousand.
use Rattle.std.proofs.Common.{◌≡◌, ℕ, zero, suc, ◌+◌, ◌*◌, ◌/◌, ◌%◌, ◌<◌, List, [], ◌∷◌, Bool, true, false, ◌&&◌, T, eqb, get_or, arith, ap, ◌∙◌, eqb→eq}
use lib.Ieee.Fits.{and_l, and_r}
use Rattle.sfc_page.specs.declared.digits.TheConstants.{TRIPLES}

-- these are the digits of n numbers from p on
abbrev are_triples : ℕ → ℕ → List ℕ → Bool
are_triples zero p xs = true
are_triples (suc n) p [] = false
are_triples (suc n) p (a ∷ []) = false
are_triples (suc n) p (a ∷ (b ∷ [])) = false
are_triples (suc n) p (a ∷ (b ∷ (c ∷ xs))) =
    (eqb a (48 + p / 100) && (eqb b (48 + p % 100 / 10) && eqb c (48 + p % 100 % 10))) && are_triples n (suc p) xs

-- the digits of number p stand at place k
record Digits (xs : List ℕ) (k p : ℕ) : Type 0 where
  pub hundreds : get_or xs (k * 3 + 0) 0 ≡ 48 + p / 100
  pub tens : get_or xs (k * 3 + 1) 0 ≡ 48 + p % 100 / 10
  pub ones : get_or xs (k * 3 + 2) 0 ≡ 48 + p % 100 % 10

-- what stands k numbers on, behind the digits of one number
on : (a b c : ℕ) (xs : List ℕ) (k j i : ℕ) → i ≡ suc (suc (suc (k * 3 + j))) → get_or (a ∷ (b ∷ (c ∷ xs))) i 0 ≡ get_or xs (k * 3 + j) 0
on a b c xs k j i e = ap (λ (m : ℕ). get_or (a ∷ (b ∷ (c ∷ xs))) m 0) e

there : (n p k : ℕ) (xs : List ℕ) → T (are_triples n p xs) → k < n → Digits xs k (p + k)
there zero p k xs t h = absurd (omega arith)
there (suc n) p k [] t h = absurd t
there (suc n) p k (a ∷ []) t h = absurd t
there (suc n) p k (a ∷ (b ∷ [])) t h = absurd t
there (suc n) p zero (a ∷ (b ∷ (c ∷ xs))) t h =
    let all = and_l _ (are_triples n (suc p) xs) t in
    let last = and_r _ _ all in
    let same : p ≡ p + 0 = omega arith in
    record {
      hundreds = eqb→eq _ _ (and_l _ _ all) ∙ ap (λ (m : ℕ). 48 + m / 100) same;
      tens = eqb→eq _ _ (and_l _ _ last) ∙ ap (λ (m : ℕ). 48 + m % 100 / 10) same;
      ones = eqb→eq _ _ (and_r _ _ last) ∙ ap (λ (m : ℕ). 48 + m % 100 % 10) same;
    }
there (suc n) p (suc k) (a ∷ (b ∷ (c ∷ xs))) t h =
    let d : Digits xs k (suc p + k) = there n (suc p) k xs (and_r _ (are_triples n (suc p) xs) t) (omega (arith, h)) in
    let same : suc p + k ≡ p + suc k = omega arith in
    record {
      hundreds = on a b c xs k 0 (suc k * 3 + 0) (omega arith) ∙ d.hundreds ∙ ap (λ (m : ℕ). 48 + m / 100) same;
      tens = on a b c xs k 1 (suc k * 3 + 1) (omega arith) ∙ d.tens ∙ ap (λ (m : ℕ). 48 + m % 100 / 10) same;
      ones = on a b c xs k 2 (suc k * 3 + 2) (omega arith) ∙ d.ones ∙ ap (λ (m : ℕ). 48 + m % 100 % 10) same;
    }

pub triple_at : (p : ℕ) → p < 1000 → (get_or TRIPLES (p * 3) 0 ≡ 48 + p / 100) × (get_or TRIPLES (p * 3 + 1) 0 ≡ 48 + p % 100 / 10)
    × (get_or TRIPLES (p * 3 + 2) 0 ≡ 48 + p % 100 % 10)
triple_at p h =
    let d = there 1000 0 p TRIPLES tt h in
    let first : p * 3 ≡ p * 3 + 0 = omega arith in
    let same : 0 + p ≡ p = omega arith in (
      ap (λ (i : ℕ). get_or TRIPLES i 0) first ∙ d.hundreds ∙ ap (λ (m : ℕ). 48 + m / 100) same,
      d.tens ∙ ap (λ (m : ℕ). 48 + m % 100 / 10) same,
      d.ones ∙ ap (λ (m : ℕ). 48 + m % 100 % 10) same,
    )

-- the last two digits of a number below a hundred
pub pair_at : (p : ℕ) → p < 100 → (get_or TRIPLES (p * 3 + 1) 0 ≡ 48 + p / 10) × (get_or TRIPLES (p * 3 + 2) 0 ≡ 48 + p % 10)
pair_at p h =
    let at = triple_at p (omega arith) in
    let small : p % 100 ≡ p = omega arith in
    (at.1 ∙ ap (λ (m : ℕ). 48 + m / 10) small, at.2 ∙ ap (λ (m : ℕ). 48 + m % 10) small)
