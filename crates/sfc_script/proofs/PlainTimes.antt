-- The bytes of a TIME text part neither lines nor words.
use Rattle.std.proofs.Common.{◌≡◌, ℕ, suc, ℤ, pos, negsuc, ◌+◌, ◌/◌, ◌%◌, ◌^◌, ◌<◌, ◌≤◌, ◌==◌, Bool, true, false, List, [], ◌∷◌, ◌++◌, Some, refl, arith, codes}
use Rattle.std.specs.Prelude.{if◌then◌else◌, unsigned_abs}
use Rattle.std.specs.Fmt.{decimal}
use Rattle.std.proofs.lemmas.Bool.Decides.{nat_tests}
use Rattle.sfc_base.specs.declared.unit.Unit.{Unit}
use Rattle.sfc_base.specs.declared.unit.Unit.TheVariants.{Day, Hour, Minute, Second, Millisecond}
use Rattle.sfc_base.specs.Classes.{between}
use Rattle.sfc_base.specs.Durations.{greatest, micros_of}
use Rattle.sfc_base.specs.Numbers as numbers
use Rattle.sfc_base.specs.Numbers.{digit_of, Digits}
use Rattle.sfc_base.specs.TimeText.{digit, thousandths, milliseconds_text, unit_text, part_text, parts_text, above_milliseconds, magnitude_text, time_text}
use Rattle.sfc_tokens.proofs.TimeLaw.{decimal_integer}
use Rattle.sfc_script.proofs.PlainInstants.{IsPlain, ArePlain, plain_append}

pub plain_low : (b : ℕ) → 35 ≤ b → b ≤ 57 → IsPlain b
plain_low b h g = record { blank = grind (arith, nat_tests); lf = grind (arith, nat_tests); cr = grind (arith, nat_tests); comment = grind (arith, nat_tests) }

pub plain_high : (b : ℕ) → 64 ≤ b → IsPlain b
plain_high b h = record { blank = grind (arith, nat_tests); lf = grind (arith, nat_tests); cr = grind (arith, nat_tests); comment = grind (arith, nat_tests) }

-- ---- digits

plain_digit : (base b d : ℕ) → digit_of base b ≡ Some d → IsPlain b
plain_digit base b d e = by (between 48 57 b) (between 65 70 b) (between 97 102 b) refl refl refl
  where
    by : (s t u : Bool) → between 48 57 b ≡ s → between 65 70 b ≡ t → between 97 102 b ≡ u → IsPlain b
    by true t u f g h = plain_low b (grind (arith, nat_tests)) (grind (arith, nat_tests))
    by false true u f g h = plain_high b (grind (arith, nat_tests))
    by false false true f g h = plain_high b (grind (arith, nat_tests))
    by false false false f g h = absurd (none f g h e)
      where
        none : between 48 57 b ≡ false → between 65 70 b ≡ false → between 97 102 b ≡ false → digit_of base b ≡ Some d → ⊥
        none f g h e = grind (arith, nat_tests)

plain_digits : {base n m : ℕ} {wanted : Bool} {w : List ℕ} → Digits base wanted n w m → ArePlain w
plain_digits numbers.ended = tt
plain_digits (numbers.digit {base = base} {b = b} {d = d} e rest) = (plain_digit base b d e, plain_digits rest)
plain_digits (numbers.underscore rest) = (plain_high 95 (omega arith), plain_digits rest)

plain_decimal : (n : ℕ) → n < 2 ^ 64 → ArePlain (decimal n)
plain_decimal n lt = plain_digits (decimal_integer n lt)

digit_plain : (d : ℕ) → d < 10 → IsPlain (digit d)
digit_plain d lt = plain_low (48 + d) (omega arith) (omega arith)

-- ---- parts

unit_end : ArePlain (codes "ms")
unit_end = (plain_high 109 (omega arith), (plain_high 115 (omega arith), tt))

thousandths_plain : (n : ℕ) → n < 1000 → ArePlain (thousandths n)
thousandths_plain n lt = by (n == 0) (n % 100 == 0) (n % 10 == 0)
  where
    hundreds : IsPlain (digit (n / 100))
    hundreds = digit_plain (n / 100) (omega arith)

    tens : IsPlain (digit (n / 10 % 10))
    tens = digit_plain (n / 10 % 10) (omega arith)

    ones : IsPlain (digit (n % 10))
    ones = digit_plain (n % 10) (omega arith)

    dot : IsPlain 46
    dot = plain_low 46 (omega arith) (omega arith)

    by : (s t u : Bool) → ArePlain (if s then codes "ms" else if t then 46 ∷ digit (n / 100) ∷ codes "ms" else
        if u then 46 ∷ digit (n / 100) ∷ digit (n / 10 % 10) ∷ codes "ms" else
        46 ∷ digit (n / 100) ∷ digit (n / 10 % 10) ∷ digit (n % 10) ∷ codes "ms")
    by true t u = unit_end
    by false true u = (dot, (hundreds, unit_end))
    by false false true = (dot, (hundreds, (tens, unit_end)))
    by false false false = (dot, (hundreds, (tens, (ones, unit_end))))

milliseconds_plain : (v : ℕ) → v < 2 ^ 64 → ArePlain (milliseconds_text v)
milliseconds_plain v lt = by (v == 0)
  where
    by : (s : Bool) → ArePlain (if s then [] else decimal (v / 1000) ++ thousandths (v % 1000))
    by true = tt
    by false = plain_append (decimal (v / 1000)) (thousandths (v % 1000)) (plain_decimal (v / 1000) (omega arith)) (thousandths_plain (v % 1000) (omega arith))

unit_plain : (u : Unit) (last : Bool) → ArePlain (unit_text u last)
unit_plain Day true = (plain_high 100 (omega arith), tt)
unit_plain Day false = (plain_high 100 (omega arith), (plain_high 95 (omega arith), tt))
unit_plain Hour true = (plain_high 104 (omega arith), tt)
unit_plain Hour false = (plain_high 104 (omega arith), (plain_high 95 (omega arith), tt))
unit_plain Minute true = (plain_high 109 (omega arith), tt)
unit_plain Minute false = (plain_high 109 (omega arith), (plain_high 95 (omega arith), tt))
unit_plain Second true = (plain_high 115 (omega arith), tt)
unit_plain Second false = (plain_high 115 (omega arith), (plain_high 95 (omega arith), tt))
unit_plain Millisecond true = (plain_high 109 (omega arith), (plain_high 115 (omega arith), tt))
unit_plain Millisecond false = (plain_high 109 (omega arith), (plain_high 115 (omega arith), (plain_high 95 (omega arith), tt)))

part_plain : (count : ℕ) (u : Unit) (last : Bool) → count < 2 ^ 64 → ArePlain (part_text count u last)
part_plain count u last lt = by (count == 0)
  where
    by : (s : Bool) → ArePlain (if s then [] else decimal count ++ unit_text u last)
    by true = tt
    by false = plain_append (decimal count) (unit_text u last) (plain_decimal count lt) (unit_plain u last)

small : (u : Unit) (v : ℕ) → v < 2 ^ 64 → (v / micros_of u < 2 ^ 64) × (v % micros_of u < 2 ^ 64)
small Day v lt = (omega (arith, lt), omega (arith, lt))
small Hour v lt = (omega (arith, lt), omega (arith, lt))
small Minute v lt = (omega (arith, lt), omega (arith, lt))
small Second v lt = (omega (arith, lt), omega (arith, lt))
small Millisecond v lt = (omega (arith, lt), omega (arith, lt))

parts_plain : (us : List Unit) (v : ℕ) → v < 2 ^ 64 → ArePlain (parts_text us v)
unfolding parts_text
parts_plain [] v lt = milliseconds_plain v lt
parts_plain (u ∷ us) v lt =
    let s = small u v lt in
    plain_append (part_text (v / micros_of u) u (v % micros_of u == 0)) (parts_text us (v % micros_of u))
    (part_plain (v / micros_of u) u (v % micros_of u == 0) s.0) (parts_plain us (v % micros_of u) s.1)

magnitude_plain : (v : ℕ) → v < 2 ^ 64 → ArePlain (magnitude_text v)
magnitude_plain v lt = by (v == 0)
  where
    by : (s : Bool) → ArePlain (if s then codes "0s" else parts_text above_milliseconds v)
    by true = (plain_low 48 (omega arith) (omega arith), (plain_high 115 (omega arith), tt))
    by false = parts_plain above_milliseconds v lt

-- what stands behind the first letter
abbrev pub behind_letter : ℤ → List ℕ
behind_letter (pos n) = 35 ∷ magnitude_text n
behind_letter (negsuc n) = 35 ∷ 45 ∷ magnitude_text (suc n)

pub letter_first : (z : ℤ) → time_text z ≡ 84 ∷ behind_letter z
letter_first (pos n) = refl
letter_first (negsuc n) = refl

pub behind_plain : (z : ℤ) → unsigned_abs z ≤ greatest → ArePlain (behind_letter z)
behind_plain (pos n) le = (plain_low 35 (omega arith) (omega arith), magnitude_plain n (omega (arith, le)))
behind_plain (negsuc n) le =
    (plain_low 35 (omega arith) (omega arith), (plain_low 45 (omega arith) (omega arith), magnitude_plain (suc n) (omega (arith, le))))

pub time_plain : (z : ℤ) → unsigned_abs z ≤ greatest → ArePlain (time_text z)
time_plain (pos n) le = (plain_high 84 (omega arith), behind_plain (pos n) le)
time_plain (negsuc n) le = (plain_high 84 (omega arith), behind_plain (negsuc n) le)
