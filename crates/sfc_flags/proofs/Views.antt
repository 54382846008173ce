-- What a table shows as a list of flags.
use Rattle.std.proofs.Common.{◌≡◌, ℕ, suc, zero, ◌+◌, ◌/◌, ◌%◌, ◌<◌, ◌==◌, Bool, true, false, cond, List, length, get_or, ◌∙◌, ap, refl, sym, inl, inr, arith, eq-eqb}
use Rattle.std.proofs.lemmas.Bool.{cases_eq, cases_lt, ne_eqb}
use Rattle.std.proofs.lemmas.List.{get_or-set_same, get_or-set_other, get_or_past, ext_get_or, length-set, length-replicate, get_or-replicate}
use Rattle.std.proofs.lemmas.Nat.Bits.{bit_at-zero}
use Rattle.std.specs.Prelude.{slice_set, replicate}
use Rattle.std.specs.Int.{div_ceil}
use Rattle.sfc_flags.specs.Flags.{flag}
use Rattle.sfc_flags.specs.Private.Bits.{bit, values, flags_of, IsTable, IsFlags}

length-values : (f : ℕ → Bool) (i n : ℕ) → length (values f i n) ≡ n
length-values f i zero = refl
length-values f i (suc n) = ap suc (length-values f (suc i) n)

flag-values : (f : ℕ → Bool) (i n j : ℕ) → j < n → flag (values f i n) j ≡ f (i + j)
flag-values f i zero j lt = absurd (omega arith)
flag-values f i (suc n) zero lt = let e : i ≡ i + 0 = omega arith in ap f e
flag-values f i (suc n) (suc j) lt = let e : suc i + j ≡ i + suc j = omega arith in flag-values f (suc i) n j (omega arith) ∙ ap f e

pub length_of : (n : ℕ) (words : List ℕ) → length (flags_of n words) ≡ n
unfolding flags_of
length_of n words = length-values (bit words) 0 n

pub flag_of : (n : ℕ) (words : List ℕ) → IsTable n words → (j : ℕ) → flag (flags_of n words) j ≡ bit words j
unfolding flags_of
flag_of n words t j = elim (cases_lt j n) [
  | inl lt ↦ (let e : 0 + j ≡ j = omega arith in flag-values (bit words) 0 n j lt ∙ ap (bit words) e)
  | inr ge ↦ get_or_past (values (bit words) 0 n) j false (omega (arith, length-values (bit words) 0 n)) ∙ sym (t.blank j ge)
]

pub same_flags : (n : ℕ) (words : List ℕ) (flags : List Bool) → IsTable n words → length flags ≡ n → ((j : ℕ) → j < n → bit words j ≡ flag flags j) → flags_of n words ≡ flags
same_flags n words flags t sized each =
    let m = length_of n words in
    ext_get_or false (flags_of n words) flags (omega arith) (λ j lt. flag_of n words t j ∙ each j (omega arith))

pub bit-zero : (words : List ℕ) (j : ℕ) → get_or words (j / 64) 0 ≡ 0 → bit words j ≡ false
unfolding bit
bit-zero words j e = rw (e, bit_at-zero (j % 64)) refl

pub no_bit : (words : List ℕ) → ((k : ℕ) → k < length words → get_or words k 0 ≡ 0) → (j : ℕ) → bit words j ≡ false
no_bit words none j = bit-zero words j (elim (cases_lt (j / 64) (length words)) [
  | inl lt ↦ none (j / 64) lt
  | inr ge ↦ get_or_past words (j / 64) 0 ge
])

-- a table with no bit set shows no flag
pub blank_table : (n m : ℕ) (words : List ℕ) → m ≡ n → IsTable n words → ((j : ℕ) → bit words j ≡ false) → flags_of n words ≡ replicate m false
blank_table n m words e t none =
    same_flags n words (replicate m false) t (omega (arith, length-replicate m false))
    (λ j lt. none j ∙ sym (get_or-replicate m j false false (omega arith)))

module _ (n : ℕ) (words new : List ℕ) (i : ℕ) (v : Bool) (t : IsTable n words) (m : length new ≡ length words) (each : (j : ℕ) → bit new j ≡ cond (j == i) v (bit words j)) (within : i < n) where
  pub set_table : IsTable n new
  set_table = record {
    sized = m ∙ t.sized;
    blank = λ j le. (let d : (j == i) ≡ false = ne_eqb j i (λ same. omega arith) in each j ∙ rw (d, t.blank j le) refl);
  }

  pub set_shows : flags_of n new ≡ slice_set (flags_of n words) i v
  set_shows =
      let k = length_of n words in
      same_flags n new (slice_set (flags_of n words) i v) set_table (omega (arith, length-set (flags_of n words) i v)) (λ j lt.
      each j ∙ elim (cases_eq j i) [
        | inl e ↦ rw (eq-eqb j i e, e, get_or-set_same (flags_of n words) i v false (omega arith)) refl
        | inr d ↦ rw (ne_eqb j i d, get_or-set_other (flags_of n words) i j v false d) (sym (flag_of n words t j))
      ])

pub zeros : (n : ℕ) (words : List ℕ) → words ≡ replicate (div_ceil n 64) 0 → IsTable n words × (flags_of n words ≡ replicate n false)
zeros n words e =
    let k = div_ceil n 64 in
    let none : (j : ℕ) → bit words j ≡ false = no_bit words (λ i lt. ap (λ ws. get_or ws i 0) e ∙ get_or-replicate k i 0 0 (omega (arith, ap length e, length-replicate {A = ℕ} k 0))) in
    let t : IsTable n words = record { sized = ap length e ∙ length-replicate k 0; blank = λ j le. none j } in
    (t, blank_table n n words refl t none)

-- a table with other words
pub held : {n single : ℕ} {words new : List ℕ} → IsFlags n single words → IsTable n new → IsFlags n single new
held f t = record { table = t; within = f.within; alone = f.alone }

-- what the words at hand say of the flags
pub shown : (n : ℕ) (words at : List ℕ) (flags : List Bool) → IsTable n words → at ≡ words → flags_of n words ≡ flags → (i : ℕ) → flag flags i ≡ bit at i
shown n words at flags t e v i = ap (λ f. flag f i) (sym v) ∙ flag_of n words t i ∙ ap (λ w. bit w i) (sym e)

pub below_length : (n : ℕ) (words at : List ℕ) (flags : List Bool) → IsTable n words → at ≡ words → flags_of n words ≡ flags → (i : ℕ) → bit at i ≡ true → i < length flags
below_length n words at flags t e v i set = elim (cases_lt i (length flags)) [
  | inl lt ↦ lt
  | inr ge ↦ absurd (let none : bit at i ≡ false = ap (λ w. bit w i) e ∙ t.blank i (omega (arith, length_of n words, ap length v)) in cc)
]
