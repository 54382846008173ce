-- The bits of a set of instances.
use Rattle.std.proofs.Common.{◌≡◌, ℕ, ◌<◌, ◌≤◌, ◌^◌, ◌*◌, ◌%◌, ◌==◌, ◌⊎◌, true, false, refl, sym, ap, ◌∙◌, inl, inr, arith, w64}
use Rattle.std.specs.Prelude.{bit_and}
use Rattle.std.specs.Int.{bit_at, bit_not}
use Rattle.std.specs.Int.Bits.{and_lt}
use Rattle.std.proofs.lemmas.Nat.Bits.{bit_at_above, bit_at_clear_same, bit_at_clear_other, bit_at-trailing_zeros}
use lib.Count.{count_trailing_zeros}

-- no bit from 64 on is set
pub none_above : (a k : ℕ) → a < 2 ^ 64 → 64 ≤ k → (bit_at a k == 1) ≡ false
none_above a k fits above = rw (bit_at_above a 64 k fits above) refl

-- the lowest bit that is set
pub lowest : (a : ℕ) → 0 < a → a < 2 ^ 64
    → (count_trailing_zeros 64 a < 64) × ((bit_at a (count_trailing_zeros 64 a) == 1) ≡ true)
    × ((k : ℕ) → k < count_trailing_zeros 64 a → (bit_at a k == 1) ≡ false)
lowest a some fits =
    let low = bit_at-trailing_zeros w64 a some fits in
    (low.0, rw low.1 refl, λ k below. rw (low.2 k below) refl)

-- the number without bit i
abbrev pub without : ℕ → ℕ → ℕ
without a i = bit_and a (bit_not w64 (1 * 2 ^ i % 2 ^ 64))

pub without_same : (a i : ℕ) → i < 64 → (bit_at (without a i) i == 1) ≡ false
without_same a i within = rw (bit_at_clear_same w64 a i within) refl

pub without_other : (a i k : ℕ) → a < 2 ^ 64 → i < 64 → (k ≡ i → ⊥) → (bit_at (without a i) k == 1) ≡ (bit_at a k == 1)
without_other a i k fits within apart = elim (cases_le k 64) [
  | inl below ↦ ap (λ n. n == 1) (bit_at_clear_other w64 a i within k below apart)
  | inr above ↦
      none_above (without a i) k (and_lt 64 a (bit_not w64 (1 * 2 ^ i % 2 ^ 64)) fits (omega arith)) above
      ∙ sym (none_above a k fits above)
]
  where
    cases_le : (m n : ℕ) → (m < n) ⊎ (n ≤ m)
    cases_le m n = grind arith
