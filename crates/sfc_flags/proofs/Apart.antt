-- Where the bits of two tables differ.
use Rattle.std.proofs.Common.{◌≡◌, ℕ, suc, zero, ◌/◌, ◌%◌, ◌<◌, ◌≤◌, ◌==◌, not, Bool, true, false, cond, List, [], ◌∷◌, length, get_or, ◌∙◌, ap, refl, sym, inl, inr, arith}
use mathlib.Core.Logic.{◌≢◌}
use Rattle.std.proofs.lemmas.Bool.{cases_lt}
use Rattle.std.proofs.lemmas.List.{get_or_past}
use Rattle.std.proofs.lemmas.Nat.Bits.{bit_at_xor}
use Rattle.std.specs.Prelude.{bit_xor, Option, Some, None, IfSome}
use Rattle.std.specs.Int.{bit_at}
use Rattle.sfc_flags.specs.Flags.{flag, places_passed}
use Rattle.sfc_flags.specs.Private.Bits.{bit, flags_of, apart, IsTable, IsNext, words_passed}
use Rattle.sfc_flags.proofs.Tables.{zero_or_one}
use Rattle.sfc_flags.proofs.Views.{length_of, shown}
use Rattle.sfc_flags.proofs.Passed.{place_passed}

pub length-apart : (words other : List ℕ) → length other ≡ length words → length (apart words other) ≡ length words
length-apart [] other e = refl
length-apart (a ∷ words) [] e = absurd (omega arith)
length-apart (a ∷ words) (b ∷ other) e = ap suc (length-apart words other (omega arith))

pub get_or-apart : (words other : List ℕ) → length other ≡ length words → (k : ℕ) → get_or (apart words other) k 0 ≡ bit_xor (get_or words k 0) (get_or other k 0)
get_or-apart [] [] e k = refl
get_or-apart [] (b ∷ other) e k = absurd (omega arith)
get_or-apart (a ∷ words) [] e k = absurd (omega arith)
get_or-apart (a ∷ words) (b ∷ other) e zero = refl
get_or-apart (a ∷ words) (b ∷ other) e (suc k) = get_or-apart words other (omega arith) k

pub xor_bit : (a b i : ℕ) → (bit_at (bit_xor a b) i == 1) ≡ cond (bit_at a i == 1) (not (bit_at b i == 1)) (bit_at b i == 1)
xor_bit a b i = elim (zero_or_one a i) [
  | inl e ↦ elim (zero_or_one b i) [
    | inl f ↦ rw (bit_at_xor a b i, e, f) refl
    | inr f ↦ rw (bit_at_xor a b i, e, f) refl
  ]
  | inr e ↦ elim (zero_or_one b i) [
    | inl f ↦ rw (bit_at_xor a b i, e, f) refl
    | inr f ↦ rw (bit_at_xor a b i, e, f) refl
  ]
]

same : (x y : Bool) → cond x (not y) y ≡ false → x ≡ y
same false y e = sym e
same true true e = refl
same true false e = absurd (let d : true ≡ false = e in cc)

differ : (x y : Bool) → cond x (not y) y ≡ true → x ≢ y
differ false false e d = absurd (let f : false ≡ true = e in cc)
differ false true e d = absurd (let f : false ≡ true = d in cc)
differ true true e d = absurd (let f : false ≡ true = e in cc)
differ true false e d = absurd (let f : true ≡ false = d in cc)

pub past_both : (flags others : List Bool) (i : ℕ) → length others ≡ length flags → length flags ≤ i → flag flags i ≡ flag others i
past_both flags others i l le = get_or_past flags i false le ∙ sym (get_or_past others i false (omega arith))

module _ (words other : List ℕ) (e : length other ≡ length words) where
  bit-apart : (i : ℕ) → bit (apart words other) i ≡ cond (bit words i) (not (bit other i)) (bit other i)
  unfolding bit
  bit-apart i = rw (get_or-apart words other e (i / 64)) (xor_bit (get_or words (i / 64) 0) (get_or other (i / 64) 0) (i % 64))

  same_bit : (i : ℕ) → bit (apart words other) i ≡ false → bit words i ≡ bit other i
  same_bit i f = same (bit words i) (bit other i) (sym (bit-apart i) ∙ f)

  differing_bit : (i : ℕ) → bit (apart words other) i ≡ true → bit words i ≢ bit other i
  differing_bit i t = differ (bit words i) (bit other i) (sym (bit-apart i) ∙ t)

-- two tables of one length, by the words at hand
module _ (n m : ℕ) (words other at at_other : List ℕ) (flags others : List Bool) (t : IsTable n words) (u : IsTable m other)
    (e : at ≡ words) (f : at_other ≡ other) (v : flags_of n words ≡ flags) (w : flags_of m other ≡ others) (l : length others ≡ length flags) where
  pub alike : length at_other ≡ length at
  alike = omega (arith, t.sized, u.sized, ap length e, ap length f, length_of n words, length_of m other, ap length v, ap length w)

  pub same_flag : (i : ℕ) → bit (apart at at_other) i ≡ false → flag flags i ≡ flag others i
  same_flag i none = shown n words at flags t e v i ∙ same_bit at at_other alike i none ∙ sym (shown m other at_other others u f w i)

  differing_flag : (i : ℕ) → bit (apart at at_other) i ≡ true → flag flags i ≢ flag others i
  differing_flag i some agree = differing_bit at at_other alike i some (sym (shown n words at flags t e v i) ∙ agree ∙ shown m other at_other others u f w i)

  within : (i : ℕ) → bit (apart at at_other) i ≡ true → i < length flags
  within i some = elim (cases_lt i (length flags)) [
    | inl lt ↦ lt
    | inr ge ↦ absurd (differing_flag i some (past_both flags others i l ge))
  ]

  pub some_difference : (from : ℕ) (o : Option ℕ) → IfSome o (λ i. IsNext (apart at at_other) from i)
      → IfSome o (λ i. (from ≤ i) × (i < length flags) × (flag flags i ≢ flag others i))
  some_difference from None next = tt
  some_difference from (Some i) next = (next.after, within i next.here, differing_flag i next.here)

  pub none_before : (from : ℕ) (o : Option ℕ) → IfSome o (λ i. IsNext (apart at at_other) from i)
      → IfSome o (λ i. (j : ℕ) → from ≤ j → j < i → flag flags j ≡ flag others j)
  none_before from None next = tt
  none_before from (Some i) next = λ j le lt. same_flag j (next.first j le lt)

  pub differences_passed : (from : ℕ) (o : Option ℕ) → from < n → IfSome o (λ i. IsNext (apart at at_other) from i)
      → words_passed (apart at at_other) from o ≤ places_passed (length flags) from o
  differences_passed from (Some i) lt next = place_passed from i next.after
  differences_passed from None lt next =
      omega (arith, length-apart at at_other alike, t.sized, ap length e, length_of n words, ap length v)
