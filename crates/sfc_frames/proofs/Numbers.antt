-- Numbers in a head.
use Rattle.std.proofs.Common.{◌≡◌, ℕ, ◌+◌, ◌-◌, ◌*◌, ◌^◌, ◌<◌, ◌≤◌, ◌==◌, true, false, not, ◌&&◌, Some, None, if◌then◌else◌, List, [], ◌∷◌, ◌++◌, length, refl, ap, ◌∙◌, arith, rules}
use Rattle.std.specs.Prelude.{decimal, nat_lt}
use Rattle.std.specs.Int.{IsInRange}
use Rattle.std.specs.Str.{all_ascii_digits}
use Rattle.std.proofs.lemmas.Bool.Decides.{nat_tests}
use Rattle.std.proofs.lemmas.Fmt.{digits_decimal, digits_value-decimal}
use Rattle.std.proofs.lemmas.Str.Parse.{IsNumeralModel, numerals_by_fold, tells_all_ascii_digits}
use Rattle.sfc_frames.specs.Heads.{without_blanks, is_empty, is_no_digit, longest, next_number, number_behind}
use Rattle.sfc_frames.specs.Frames.{is_plain}

abbrev pub read_on : ℕ → List ℕ → ℕ
read_on n [] = n
read_on n (c ∷ cs) = read_on (n * 10 + (c - 48)) cs

abbrev pub AreDigits : List ℕ → Type 0
AreDigits ds = all_ascii_digits ds ≡ true

own : IsNumeralModel (λ ds. all_ascii_digits ds ≡ true) (read_on 0)
own = numerals_by_fold _ tells_all_ascii_digits read_on (search rules)

pub digits_of_length : (n : ℕ) → n < 2 ^ 64 → AreDigits (decimal n)
digits_of_length n h = digits_decimal own n h

pub value_of_length : (n : ℕ) → n < 2 ^ 64 → read_on 0 (decimal n) ≡ n
value_of_length n h = digits_value-decimal own n h

grows : (n : ℕ) (ds : List ℕ) → n ≤ read_on n ds
grows n [] = omega arith
grows n (c ∷ cs) = omega (arith, grows (n * 10 + (c - 48)) cs)

a_digit : (c : ℕ) → IsInRange 48 57 c → is_no_digit c ≡ false
a_digit c h = grind (arith, nat_tests)

not_above : (n : ℕ) → n ≤ longest → nat_lt longest n ≡ false
not_above n h = grind (arith, nat_tests)

no_cr : (c : ℕ) → IsInRange 48 57 c → (c == 13) ≡ false
no_cr c h = grind (arith, nat_tests)

no_lf : (c : ℕ) → IsInRange 48 57 c → (c == 10) ≡ false
no_lf c h = grind (arith, nat_tests)

no_blank : (c : ℕ) → IsInRange 48 57 c → (c == 32) ≡ false
no_blank c h = grind (arith, nat_tests)

-- digits with a CR at their end are read as their value
pub number_reads : (n : ℕ) (ds : List ℕ) → AreDigits ds → read_on n ds ≤ longest → number_behind n (ds ++ 13 ∷ []) ≡ Some (read_on n ds)
number_reads n [] d h = refl
number_reads n (c ∷ cs) d h =
    let parts = tells_all_ascii_digits.parts c cs d in
    let small : n ≤ longest = omega (arith, grows (n * 10 + (c - 48)) cs) in
    ap (λ t. if t && is_empty (cs ++ 13 ∷ []) then Some n else if is_no_digit c then None else number_behind (next_number n (c - 48)) (cs ++ 13 ∷ [])) (no_cr c parts.0)
    ∙ ap (λ t. if t then None else number_behind (next_number n (c - 48)) (cs ++ 13 ∷ [])) (a_digit c parts.0)
    ∙ ap (λ t. number_behind (if t then n else n * 10 + (c - 48)) (cs ++ 13 ∷ [])) (not_above n small)
    ∙ number_reads (n * 10 + (c - 48)) cs parts.1 h

-- no end of a line is among digits, nor a blank in front of them
pub digits_plain : (ds tail : List ℕ) → AreDigits ds → is_plain tail ≡ true → is_plain (ds ++ tail) ≡ true
digits_plain [] tail d t = t
digits_plain (c ∷ cs) tail d t =
    let parts = tells_all_ascii_digits.parts c cs d in
    ap (λ t. not t && is_plain (cs ++ tail)) (no_lf c parts.0) ∙ digits_plain cs tail parts.1 t

pub digits_first : (ds tail : List ℕ) → AreDigits ds → 0 < length ds → without_blanks (ds ++ tail) ≡ ds ++ tail
digits_first [] tail d h = absurd (omega arith)
digits_first (c ∷ cs) tail d h =
    ap (λ t. if t then without_blanks (cs ++ tail) else c ∷ (cs ++ tail)) (no_blank c (tells_all_ascii_digits.parts c cs d).0)
