-- The first set place.
use Rattle.std.proofs.Common.{◌≡◌, ℕ, suc, zero, ◌+◌, ◌-◌, ◌*◌, ◌/◌, ◌%◌, ◌^◌, ◌<◌, ◌≤◌, ◌==◌, Bool, true, false, List, [], ◌∷◌, length, get_or, ◌∙◌, ap, refl, sym, inl, inr, arith, w64, subst}
use Rattle.std.proofs.lemmas.Bool.{cases_lt}
use Rattle.std.proofs.lemmas.List.{drop_all, get_or_past}
use Rattle.std.proofs.Math.Seq.{drop-cons}
use Rattle.std.proofs.lemmas.Nat.{shr-shr, shr_below, shr_le}
use Rattle.std.proofs.lemmas.Nat.Bits.{bit_at-trailing_zeros, bit_at_above, bit_at-zero}
use native.Mathlib.Nat.{div-one}
use Rattle.std.specs.Int.{bit_at, trailing_zeros}
use Rattle.std.specs.Prelude.{Option, Some, None, IfSome}
use Rattle.sfc_flags.specs.Flags.{flag, places_from}
use Rattle.sfc_flags.specs.Private.Bits.{flags_of, bit, IsNext, IsTable}
use mathlib.Core.Logic.{◌≢◌}
use Rattle.sfc_flags.proofs.Views.{bit-zero, shown, below_length}

-- the bits of w are those of the places from p on, up to the end of p's word
abbrev pub Shows : List ℕ → ℕ → ℕ → Type 0
Shows words p w = (t : ℕ) → p % 64 + t < 64 → bit words (p + t) ≡ (bit_at w t == 1)

pub shifted : (words : List ℕ) (p w : ℕ) → w ≡ get_or words (p / 64) 0 / 2 ^ (p % 64) → Shows words p w
unfolding bit
shifted words p w e t small =
    let at : (p + t) / 64 ≡ p / 64 = omega arith in
    let place : (p + t) % 64 ≡ p % 64 + t = omega arith in
    rw (at, place, e) (ap (λ x. x % 2 == 1) (sym (shr-shr (get_or words (p / 64) 0) (p % 64) t)))

-- where all of them are 0, no place is set up to the end of the word
pub none_in : (words : List ℕ) (p w : ℕ) → Shows words p w → w ≡ 0 → (j : ℕ) → p ≤ j → j < p / 64 * 64 + 64 → bit words j ≡ false
none_in words p w shows e j le lt =
    let place : p + (j - p) ≡ j = omega arith in
    ap (bit words) (sym place) ∙ shows (j - p) (omega arith) ∙ rw (e, bit_at-zero (j - p)) refl

-- else the lowest of them is the next
module _ (words : List ℕ) (p w : ℕ) (some : 0 < w) (small : w < 2 ^ (64 - p % 64)) (fits : w < 2 ^ 64) where
  pub low_within : p % 64 + trailing_zeros w64 w < 64
  low_within = elim (cases_lt (trailing_zeros w64 w) (64 - p % 64)) [
    | inl lt ↦ omega arith
    | inr ge ↦ absurd (omega (arith, (bit_at-trailing_zeros w64 w some fits).1, bit_at_above w (64 - p % 64) (trailing_zeros w64 w) small ge))
  ]

pub next_in : (words : List ℕ) (p w : ℕ) → Shows words p w → 0 < w → w < 2 ^ (64 - p % 64) → w < 2 ^ 64 → IsNext words p (p + trailing_zeros w64 w)
next_in words p w shows some small fits =
    let low = bit_at-trailing_zeros w64 w some fits in
    let k = trailing_zeros w64 w in
    record {
      after = omega arith;
      here = shows k (low_within words p w some small fits) ∙ rw low.1 refl;
      first = λ j le lt. (let place : p + (j - p) ≡ j = omega arith in
          let within = low_within words p w some small fits in
          ap (bit words) (sym place) ∙ shows (j - p) (omega arith) ∙ rw (low.2 (j - p) (omega arith)) refl);
    }

-- ---- the list of the set places

module _ (flags : List Bool) where
  step_false : (p : ℕ) → p < length flags → flag flags p ≡ false → places_from flags p ≡ places_from flags (suc p)
  step_false p lt e = rw (drop-cons flags p false, e) refl

  step_true : (p : ℕ) → p < length flags → flag flags p ≡ true → places_from flags p ≡ p ∷ places_from flags (suc p)
  step_true p lt e = rw (drop-cons flags p false, e) refl

  pub none_left : (p : ℕ) → length flags ≤ p → places_from flags p ≡ []
  none_left p le = rw (drop_all p flags le) refl

  skipped : (k p : ℕ) → p + k ≤ length flags → ((j : ℕ) → p ≤ j → j < p + k → flag flags j ≡ false) → places_from flags p ≡ places_from flags (p + k)
  skipped zero p le none = let e : p ≡ p + 0 = omega arith in ap (places_from flags) e
  skipped (suc k) p le none =
      let e : suc p + k ≡ p + suc k = omega arith in
      step_false p (omega arith) (none p (omega arith) (omega arith)) ∙ skipped k (suc p) (omega arith) (λ j a b. none j (omega arith) (omega arith)) ∙ ap (places_from flags) e

  pub next_place : (p i : ℕ) → p ≤ i → i < length flags → flag flags i ≡ true → ((j : ℕ) → p ≤ j → j < i → flag flags j ≡ false) → places_from flags p ≡ i ∷ places_from flags (i + 1)
  next_place p i le lt here none =
      let e : p + (i - p) ≡ i = omega arith in
      let s : suc i ≡ i + 1 = omega arith in
      skipped (i - p) p (omega arith) (λ j a b. none j a (omega arith)) ∙ ap (places_from flags) e ∙ step_true i lt here ∙ ap (λ k. i ∷ places_from flags k) s

  pub no_place : (p : ℕ) → ((j : ℕ) → p ≤ j → flag flags j ≡ false) → places_from flags p ≡ []
  no_place p none = elim (cases_lt p (length flags)) [
    | inl lt ↦ (let e : p + (length flags - p) ≡ length flags = omega arith in
        skipped (length flags - p) p (omega arith) (λ j a b. none j a) ∙ ap (places_from flags) e ∙ none_left (length flags) (omega arith))
    | inr ge ↦ none_left p ge
  ]

-- ---- the steps of the search

shifted_small : (n s : ℕ) → s < 64 → n < 2 ^ 64 → n / 2 ^ s < 2 ^ (64 - s)
shifted_small n s lt fits = let e : 64 ≡ 64 - s + s = omega arith in shr_below n (64 - s) s (subst (λ k. n < 2 ^ k) e fits)

module _ (words : List ℕ) where
  pub past : (p : ℕ) → length words * 64 ≤ p → bit words p ≡ false
  unfolding bit
  past p le = rw (get_or_past words (p / 64) 0 (omega arith), bit_at-zero (p % 64)) refl

  pub found : (p w : ℕ) → get_or words (p / 64) 0 < 2 ^ 64 → w ≡ get_or words (p / 64) 0 / 2 ^ (p % 64) → 0 < w
      → IsNext words p (p + trailing_zeros w64 w) × (p % 64 + trailing_zeros w64 w < 64)
  found p w fits e some =
      let small : w < 2 ^ (64 - p % 64) = rw e (shifted_small (get_or words (p / 64) 0) (p % 64) (omega arith) fits) in
      let less : w < 2 ^ 64 = omega (arith, e, shr_le (get_or words (p / 64) 0) (p % 64)) in
      (next_in words p w (shifted words p w e) some small less, low_within words p w some small less)

  -- at the first bit of a word
  pub whole : (k : ℕ) → get_or words k 0 ≡ get_or words (k * 64 / 64) 0 / 2 ^ (k * 64 % 64)
  whole k =
      let a : k * 64 / 64 ≡ k = omega arith in
      let b : k * 64 % 64 ≡ 0 = omega arith in
      rw (a, b) (sym (div-one (get_or words k 0)))

  pub none_shown : (p w : ℕ) → w ≡ get_or words (p / 64) 0 / 2 ^ (p % 64) → w ≡ 0 → (j : ℕ) → p ≤ j → j < p / 64 * 64 + 64 → bit words j ≡ false
  none_shown p w e none = none_in words p w (shifted words p w e) none

  -- the words from number `start` up to number k have no bit
  none_between : (start k : ℕ) → ((i : ℕ) → start ≤ i → i < k → get_or words i 0 ≡ 0) → (p : ℕ) → start * 64 ≤ p → p < k * 64 → bit words p ≡ false
  none_between start k blank p le lt = bit-zero words p (blank (p / 64) (omega arith) (omega arith))

  pub next_from : (from p i : ℕ) → from ≤ p → ((j : ℕ) → from ≤ j → j < p → bit words j ≡ false) → IsNext words p i → IsNext words from i
  next_from from p i le none next = record {
    after = omega (arith, next.after);
    here = next.here;
    first = λ j a b. elim (cases_lt j p) [
      | inl lt ↦ none j a lt
      | inr ge ↦ next.first j ge b
    ];
  }

-- behind the word of place `from`, which has none from there on, and the blank words that follow
module _ (words : List ℕ) (from w k : ℕ) (e : w ≡ get_or words (from / 64) 0 / 2 ^ (from % 64)) (none : w ≡ 0)
    (blank : (i : ℕ) → from / 64 + 1 ≤ i → i < k → get_or words i 0 ≡ 0) where
  none_up_to : (p : ℕ) → from ≤ p → p < k * 64 → bit words p ≡ false
  none_up_to p le lt = elim (cases_lt p (from / 64 * 64 + 64)) [
    | inl here ↦ none_shown words from w e none p le here
    | inr ge ↦ none_between words (from / 64 + 1) k blank p (omega arith) lt
  ]

  pub found_behind : (v : ℕ) → v ≡ get_or words k 0 → from / 64 + 1 ≤ k → v < 2 ^ 64 → v ≢ 0 → IsNext words from (k * 64 + trailing_zeros w64 v)
  found_behind v at le fits some =
      let same : k * 64 / 64 ≡ k = omega arith in
      next_from words from (k * 64) (k * 64 + trailing_zeros w64 v) (omega arith) none_up_to
      (found words (k * 64) v (rw same (omega (arith, at))) (at ∙ whole words k) (omega arith)).0

  pub none_behind : length words ≤ k → (p : ℕ) → from ≤ p → bit words p ≡ false
  none_behind le p after = elim (cases_lt p (k * 64)) [
    | inl lt ↦ none_up_to p after lt
    | inr ge ↦ past words p (omega arith)
  ]

-- in a table of one word
module _ (words : List ℕ) (from w : ℕ) (within : from < 64) where
  pub alone_found : get_or words 0 0 < 2 ^ 64 → w ≡ get_or words 0 0 / 2 ^ from → 0 < w → IsNext words from (from + trailing_zeros w64 w)
  alone_found fits e some =
      let a : from / 64 ≡ 0 = omega arith in
      let b : from % 64 ≡ from = omega arith in
      (found words from w (rw a fits) (rw (a, b) e) some).0

  pub alone_none : length words ≡ 1 → w ≡ get_or words 0 0 / 2 ^ from → w ≡ 0 → (j : ℕ) → from ≤ j → bit words j ≡ false
  alone_none one e none j le =
      let a : from / 64 ≡ 0 = omega arith in
      let b : from % 64 ≡ from = omega arith in
      elim (cases_lt j 64) [
        | inl lt ↦ none_shown words from w (rw (a, b) e) none j le (omega arith)
        | inr ge ↦ past words j (omega arith)
      ]

module _ (n : ℕ) (words at : List ℕ) (flags : List Bool) (t : IsTable n words) (e : at ≡ words) (v : flags_of n words ≡ flags) (from : ℕ) where
  pub some_place : (o : Option ℕ) → IfSome o (λ i. IsNext at from i) → IfSome o (λ i. (from ≤ i) × (i < length flags) × (places_from flags from ≡ i ∷ places_from flags (i + 1)))
  some_place None next = tt
  some_place (Some i) next =
      let lt = below_length n words at flags t e v i next.here in
      (next.after, lt, next_place flags from i next.after lt (shown n words at flags t e v i ∙ next.here) (λ j a b. shown n words at flags t e v j ∙ next.first j a b))
