-- What the operations on words do to their bits.
use Rattle.std.proofs.Common.{◌≡◌, ℕ, ◌*◌, ◌/◌, ◌%◌, ◌^◌, ◌<◌, ◌||◌, ◌&&◌, ◌==◌, not, Bool, true, false, cond, List, length, get_or, ap, refl, inl, inr, arith, w64, eq-eqb}
use mathlib.Core.Logic.{◌⊎◌, ◌≢◌}
use Rattle.std.proofs.lemmas.Bool.{cases_eq, ne_eqb}
use Rattle.std.proofs.lemmas.List.{get_or-set_same, get_or-set_other}
use Rattle.std.proofs.lemmas.Nat.Bits.{bit_at_or, bit_at_and, bit_at_not, shr_and_one, bit_at_set_same, bit_at_set_other, bit_at_clear_same, bit_at_clear_other}
use Rattle.std.specs.Prelude.{slice_set, bit_and, bit_or}
use Rattle.std.specs.Int.{bit_at, bit_not}
use Rattle.sfc_flags.specs.Private.Bits.{bit}

pub zero_or_one : (n i : ℕ) → (bit_at n i ≡ 0) ⊎ (bit_at n i ≡ 1)
zero_or_one n i = elim (cases_eq (bit_at n i) 0) [
  | inl e ↦ inl e
  | inr d ↦ inr (omega arith)
]

pub or_bit : (a b i : ℕ) → (bit_at (bit_or a b) i == 1) ≡ ((bit_at a i == 1) || (bit_at b i == 1))
or_bit a b i = elim (zero_or_one a i) [
  | inl e ↦ elim (zero_or_one b i) [
    | inl f ↦ rw (bit_at_or a b i, e, f) refl
    | inr f ↦ rw (bit_at_or a b i, e, f) refl
  ]
  | inr e ↦ elim (zero_or_one b i) [
    | inl f ↦ rw (bit_at_or a b i, e, f) refl
    | inr f ↦ rw (bit_at_or a b i, e, f) refl
  ]
]

pub and_not_bit : (a b i : ℕ) → b < 2 ^ 64 → i < 64 → (bit_at (bit_and a (bit_not w64 b)) i == 1) ≡ ((bit_at a i == 1) && not (bit_at b i == 1))
and_not_bit a b i fits small = elim (zero_or_one a i) [
  | inl e ↦ elim (zero_or_one b i) [
    | inl f ↦ rw (bit_at_and a (bit_not w64 b) i, bit_at_not w64 b i fits small, e, f) refl
    | inr f ↦ rw (bit_at_and a (bit_not w64 b) i, bit_at_not w64 b i fits small, e, f) refl
  ]
  | inr e ↦ elim (zero_or_one b i) [
    | inl f ↦ rw (bit_at_and a (bit_not w64 b) i, bit_at_not w64 b i fits small, e, f) refl
    | inr f ↦ rw (bit_at_and a (bit_not w64 b) i, bit_at_not w64 b i fits small, e, f) refl
  ]
]

pub got : (words : List ℕ) (i : ℕ) → (bit_and (get_or words (i / 64) 0 / 2 ^ (i % 64)) 1 == 1) ≡ bit words i
unfolding bit
got words i = rw (shr_and_one (get_or words (i / 64) 0) (i % 64)) refl

-- a word whose bit of place i is v, and whose other bits stay, in place of i's word
pub placed : (old : List ℕ) (i w : ℕ) (v : Bool) → i / 64 < length old → (bit_at w (i % 64) == 1) ≡ v
    → ((k : ℕ) → k < 64 → k ≢ i % 64 → bit_at w k ≡ bit_at (get_or old (i / 64) 0) k)
    → (j : ℕ) → bit (slice_set old (i / 64) w) j ≡ cond (j == i) v (bit old j)
unfolding bit
placed old i w v within here other j = elim (cases_eq (j / 64) (i / 64)) [
  | inl e ↦ elim (cases_eq (j % 64) (i % 64)) [
    | inl f ↦ (let same : j ≡ i = omega arith in
        rw (e, f, get_or-set_same old (i / 64) w 0 within, eq-eqb j i same) here)
    | inr f ↦ (let apart : (j == i) ≡ false = ne_eqb j i (λ same. f (ap (λ x. x % 64) same)) in
        rw (e, get_or-set_same old (i / 64) w 0 within, apart, other (j % 64) (omega arith) f) refl)
  ]
  | inr d ↦ (let apart : (j == i) ≡ false = ne_eqb j i (λ same. d (ap (λ x. x / 64) same)) in
      rw (get_or-set_other old (i / 64) (j / 64) w 0 d, apart) refl)
]

pub put_true : (old : List ℕ) (i : ℕ) → i / 64 < length old → (j : ℕ) → bit (slice_set old (i / 64) (bit_or (get_or old (i / 64) 0) (1 * 2 ^ (i % 64) % 2 ^ 64))) j ≡ cond (j == i) true (bit old j)
put_true old i within =
    let n = get_or old (i / 64) 0 in
    placed old i _ true within (rw (bit_at_set_same w64 n (i % 64) (omega arith)) refl)
    (λ k small apart. bit_at_set_other w64 n (i % 64) (omega arith) k apart)

pub put_false : (old : List ℕ) (i : ℕ) → i / 64 < length old → (j : ℕ) → bit (slice_set old (i / 64) (bit_and (get_or old (i / 64) 0) (bit_not w64 (1 * 2 ^ (i % 64) % 2 ^ 64)))) j ≡ cond (j == i) false (bit old j)
put_false old i within =
    let n = get_or old (i / 64) 0 in
    placed old i _ false within (rw (bit_at_clear_same w64 n (i % 64) (omega arith)) refl)
    (λ k small apart. bit_at_clear_other w64 n (i % 64) (omega arith) k small apart)
