-- A run instant that is above the last one, and one that is not.
use Rattle.std.proofs.Common.{◌≡◌, ◌^◌, Bool, true, false, ◌||◌, ℤ, pos, ◌≤ℤ◌, ◌<ℤ◌, int_lt, arith, rules, w64, SFits, Result, Ok, Err, refl, ap}
use Rattle.std.proofs.lemmas.Int.{ints}
use Rattle.sfc_core.specs.Verdict.{refused_if}
use Rattle.sfc_events.specs.declared.refusal.Refusal.{Refusal}
use Rattle.sfc_events.specs.declared.refusal.Refusal.TheVariants.{InstantRange}
use Rattle.sfc_debug.specs.Private.Ranges.{granted}
use Rattle.sfc_debug.specs.Verdict.{range_refusal}

is_below : (x y : ℤ) → x <ℤ y → int_lt x y ≡ true
is_below x y less = by (int_lt x y) refl
  where
    by : (t : Bool) → int_lt x y ≡ t → int_lt x y ≡ true
    by true e = e
    by false e = absurd (omega (arith, ints))

is_not_below : (x y : ℤ) → y ≤ℤ x → int_lt x y ≡ false
is_not_below x y most = by (int_lt x y) refl
  where
    by : (t : Bool) → int_lt x y ≡ t → int_lt x y ≡ false
    by false e = e
    by true e = absurd (omega (arith, ints))

-- by the delta and the instant
abbrev pub told : ℤ → ℤ → Result ℤ Refusal
told d t = granted (range_refusal d t) t

by_flags : (b c e : Bool) (t : ℤ) → (b || c) ≡ e → granted (refused_if (b || c) InstantRange) t ≡ granted (refused_if e InstantRange) t
by_flags b c e t is = ap (λ x. granted (refused_if x InstantRange) t) is

-- a negative delta
pub early : (d t : ℤ) → d <ℤ pos 0 → told d t ≡ Err InstantRange
early d t less = by_flags (int_lt d (pos 0)) (int_lt (pos (2 ^ 62)) t) true t (ap (λ b. b || int_lt (pos (2 ^ 62)) t) (is_below d (pos 0) less))

either : (b c : Bool) → c ≡ true → (b || c) ≡ true
either true c e = refl
either false c e = e

neither : (b c : Bool) → b ≡ false → c ≡ false → (b || c) ≡ false
neither false c e f = f
neither true c e f = e

-- an instant above the last
pub late : (d t : ℤ) → pos (2 ^ 62) <ℤ t → told d t ≡ Err InstantRange
late d t less = by_flags (int_lt d (pos 0)) (int_lt (pos (2 ^ 62)) t) true t (either (int_lt d (pos 0)) (int_lt (pos (2 ^ 62)) t) (is_below (pos (2 ^ 62)) t less))

-- neither
pub in_time : (d t : ℤ) → pos 0 ≤ℤ d → t ≤ℤ pos (2 ^ 62) → told d t ≡ Ok t
in_time d t low high =
    by_flags (int_lt d (pos 0)) (int_lt (pos (2 ^ 62)) t) false t (neither (int_lt d (pos 0)) (int_lt (pos (2 ^ 62)) t) (is_not_below d (pos 0) low) (is_not_below (pos (2 ^ 62)) t high))

-- it is a number of 64 bits
pub fits : (t : ℤ) → pos 0 ≤ℤ t → t ≤ℤ pos (2 ^ 62) → SFits w64 t
fits t low high = search rules
