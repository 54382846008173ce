-- What the operations on a word do to its flags, and what a table shows of its words.
use Rattle.std.proofs.Common.{◌≡◌, ℕ, Bool, not, ◌/◌, ◌%◌, ◌^◌, ◌<◌, ◌≤◌, ◌&&◌, ◌↔◌, ◌*◌, ◌==◌, true, false, cond, List, length, get_or, ◌-◌, ◌∙◌, ap, refl, sym, inl, inr, arith, w64, eq-eqb}
use Rattle.std.proofs.lemmas.Bool.{cases_eq, ne_eqb}
use Rattle.std.proofs.lemmas.List.{get_or-set_same, get_or-set_other, length-set}
use Rattle.std.proofs.lemmas.Nat.Bits.{bit_at_and, bit_at-zero, bit_at-trailing_zeros, bit_at_set_same, bit_at_set_other, bit_at_ones, bit_at_ones_above}
use Rattle.std.specs.Prelude.{slice_set, bit_and, bit_or}
use Rattle.std.specs.Int.{bit_at, trailing_zeros}
use Rattle.std.proofs.lemmas.Nat.{one_shl}
use lib.Count.{count_trailing_zeros}
use Rattle.sfc_flags.specs.Flags.{flag}
use Rattle.sfc_flags.specs.Private.Bits.{bit, flags_of, IsTable}
use Rattle.sfc_flags.proofs.Tables.{zero_or_one}
use Rattle.sfc_flags.proofs.Views.{flag_of}

pub and_bit : (a b i : ℕ) → (bit_at (bit_and a b) i == 1) ≡ ((bit_at a i == 1) && (bit_at b i == 1))
and_bit a b i = elim (zero_or_one a i) [
  | inl e ↦ elim (zero_or_one b i) [
    | inl f ↦ rw (bit_at_and a b i, e, f) refl
    | inr f ↦ rw (bit_at_and a b i, e, f) refl
  ]
  | inr e ↦ elim (zero_or_one b i) [
    | inl f ↦ rw (bit_at_and a b i, e, f) refl
    | inr f ↦ rw (bit_at_and a b i, e, f) refl
  ]
]

pub no_flag : (i : ℕ) → (bit_at 0 i == 1) ≡ false
no_flag i = rw (bit_at-zero i) refl

-- a word without a flag is 0
pub all_none : (a : ℕ) → a < 2 ^ 64 → ((i : ℕ) → (bit_at a (i % 64) == 1) ≡ false) → a ≡ 0
all_none a fits none = elim (cases_eq a 0) [
  | inl e ↦ e
  | inr d ↦ absurd (
      let low = bit_at-trailing_zeros w64 a (omega arith) fits in
      let t : ℕ = trailing_zeros w64 a in
      let lt : t < 64 = low.0 in
      let same : t % 64 ≡ t = omega arith in
      let one : (bit_at a (t % 64) == 1) ≡ true = rw (same, low.1) refl in
      let bad = none t in cc)
]

-- what a table shows of the word that holds a place
pub word_shows : (n : ℕ) (words : List ℕ) → IsTable n words → (k i : ℕ) → i / 64 ≡ k
    → (bit_at (get_or words k 0) (i % 64) == 1) ≡ flag (flags_of n words) i
unfolding bit
word_shows n words t k i e = sym (flag_of n words t i ∙ rw e refl)

module _ (n : ℕ) (words : List ℕ) (k w : ℕ) (t : IsTable n words) (within : k < length words)
    (past : (i : ℕ) → i / 64 ≡ k → n ≤ i → (bit_at w (i % 64) == 1) ≡ false) where
  new_bit : (i : ℕ) → bit (slice_set words k w) i ≡ cond (i / 64 == k) (bit_at w (i % 64) == 1) (bit words i)
  unfolding bit
  new_bit i = elim (cases_eq (i / 64) k) [
    | inl e ↦ rw (e, get_or-set_same words k w 0 within, eq-eqb k k refl) refl
    | inr d ↦ rw (get_or-set_other words k (i / 64) w 0 d, ne_eqb (i / 64) k d) refl
  ]

  new_blank : (i : ℕ) → n ≤ i → bit (slice_set words k w) i ≡ false
  new_blank i le = elim (cases_eq (i / 64) k) [
    | inl e ↦ new_bit i ∙ rw (e, eq-eqb k k refl) (past i e le)
    | inr d ↦ new_bit i ∙ rw (ne_eqb (i / 64) k d) (t.blank i le)
  ]

  pub word_put : IsTable n (slice_set words k w)
  word_put = record { sized = length-set words k w ∙ t.sized; blank = new_blank }

  pub put_shows : (i : ℕ) → flag (flags_of n (slice_set words k w)) i ≡ cond (i / 64 == k) (bit_at w (i % 64) == 1) (flag (flags_of n words) i)
  put_shows i = rw (flag_of n words t i) (flag_of n (slice_set words k w) word_put i ∙ new_bit i)

pub test_none : (a : ℕ) → a < 2 ^ 64 → ((a == 0) ≡ true) ↔ ((i : ℕ) → (bit_at a (i % 64) == 1) ≡ false)
test_none a fits = elim (cases_eq a 0) [
  | inl e ↦ (λ yes i. rw e (no_flag (i % 64)), λ none. eq-eqb a 0 e)
  | inr d ↦ (λ yes. absurd (let no : (a == 0) ≡ false = ne_eqb a 0 d in cc), λ none. absurd (d (all_none a fits none)))
]

-- a word with the bit of place i set
pub plus_shows : (w i j : ℕ) → j / 64 ≡ i / 64
    → (bit_at (bit_or w (1 * 2 ^ (i % 64) % 2 ^ 64)) (j % 64) == 1) ≡ cond (j == i) true (bit_at w (j % 64) == 1)
plus_shows w i j same = elim (cases_eq (j % 64) (i % 64)) [
  | inl e ↦ (let here : j ≡ i = omega arith in
      rw (eq-eqb j i here, e, bit_at_set_same w64 w (i % 64) (omega arith)) refl)
  | inr d ↦ rw (ne_eqb j i (λ e. d (ap (λ x. x % 64) e)), bit_at_set_other w64 w (i % 64) (omega arith) (j % 64) d) refl
]

-- the place of the lowest bit of a word that has one
pub lowest : (a : ℕ) → 0 < a → a < 2 ^ 64 → (count_trailing_zeros 64 a < 64) × ((bit_at a (count_trailing_zeros 64 a % 64) == 1) ≡ true)
    × ((j : ℕ) → j < count_trailing_zeros 64 a → (bit_at a (j % 64) == 1) ≡ false)
lowest a some fits =
    let is = bit_at-trailing_zeros w64 a some fits in
    let within : count_trailing_zeros 64 a < 64 = is.0 in
    let here : count_trailing_zeros 64 a % 64 ≡ count_trailing_zeros 64 a = omega arith in
    (within, rw (here, is.1) refl, λ j lt. (let there : j % 64 ≡ j = omega arith in rw (there, is.2 j lt) refl))

-- a word without the bit of place i
pub minus_shows : (b x : Bool) (place i : ℕ) → i < 64 → x ≡ cond (place % 64 == i) true false → (b && not x) ≡ (b && not (place % 64 == i))
minus_shows b x place i lt e = elim (cases_eq (place % 64) i) [
  | inl same ↦ rw (e, eq-eqb (place % 64) i same) refl
  | inr apart ↦ rw (e, ne_eqb (place % 64) i apart) refl
]

-- the bits below that of place i
module _ (i j : ℕ) (same : j / 64 ≡ i / 64) where
  pub before_shows : j < i → (bit_at (1 * 2 ^ (i % 64) % 2 ^ 64 - 1) (j % 64) == 1) ≡ true
  before_shows lt = rw (one_shl (i % 64) 64 (omega arith), bit_at_ones (i % 64) (j % 64) (omega arith)) refl

  pub after_shows : i ≤ j → (bit_at (1 * 2 ^ (i % 64) % 2 ^ 64 - 1) (j % 64) == 1) ≡ false
  after_shows le = rw (one_shl (i % 64) 64 (omega arith), bit_at_ones_above (i % 64) (j % 64) (omega arith)) refl
