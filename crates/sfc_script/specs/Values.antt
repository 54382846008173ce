-- Decimal numbers, and the values that words are (our choice of format).
use Rattle.std.specs.Prelude.{ℕ, ◌+◌, ◌-◌, ◌*◌, ◌==◌, nat_le, if◌then◌else◌, List, [], ◌∷◌, codes, true, false}
use Rattle.std.specs.Prelude.{ℤ, pos, neg_ℤ, Option, Some, None, option_map, option_and_then}
use Rattle.std.specs.Option.{option_or}
use Rattle.std.specs.Ordering.{int_eq}
use Rattle.sfc_base.specs.declared.var_type.VarType.{VarType}
use Rattle.sfc_base.specs.declared.var_type.VarType.TheVariants as types
use Rattle.sfc_base.specs.Case.{same_word}
use Rattle.sfc_base.specs.Classes.{between}
use Rattle.sfc_tokens.specs.Lexing.DurationWords.{duration_value}
use Rattle.sfc_base.specs.declared.value.Value.{Value}
use Rattle.sfc_base.specs.declared.value.Value.TheVariants as value
use Rattle.sfc_base.specs.Values.{is_in_range}

-- ---- numbers

-- the number that decimal digits make behind the number n; 48 to 57 are the digits 0 to 9
abbrev pub digits_from : ℕ → List ℕ → Option ℕ
digits_from n [] = Some n
digits_from n (b ∷ digits) = if between 48 57 b then digits_from (n * 10 + (b - 48)) digits else None

-- one decimal digit or more
abbrev pub decimal_of : List ℕ → Option ℕ
decimal_of [] = None
decimal_of (b ∷ digits) = digits_from 0 (b ∷ digits)

-- the number, if it is not over the limit
abbrev pub limited : ℕ → Option ℕ → Option ℕ
limited limit o = option_and_then (λ n. if nat_le n limit then Some n else None) o

-- decimal digits with a minus or without; 45 is the minus, and `-0` is 0
abbrev pub number_of : List ℕ → Option ℤ
number_of [] = None
number_of (b ∷ digits) =
    if b == 45 then option_map (λ n. neg_ℤ (pos n)) (decimal_of digits) else option_map pos (decimal_of (b ∷ digits))

-- a number in the range of DINT
abbrev pub dint_of : List ℕ → Option ℤ
dint_of word = option_and_then (λ z. if is_in_range types.Dint z then Some z else None) (number_of word)

-- ---- values

-- The value that a number is for a variable of this type: one of the type where it fits, and 0 and 1 fit BOOL. Else it
-- is a DINT, as for a variable of type TIME, and where there is no variable.
abbrev pub value_of_number : Option VarType → ℤ → Value
value_of_number (Some types.Bool) z =
    if int_eq z (pos 0) then value.Bool false else if int_eq z (pos 1) then value.Bool true else value.Dint z
value_of_number (Some types.Int) z = if is_in_range types.Int z then value.Int z else value.Dint z
value_of_number _ z = value.Dint z

-- TRUE, FALSE, a duration, or a number in the range of DINT
abbrev pub value_of_word : Option VarType → List ℕ → Option Value
value_of_word t word =
    if same_word word (codes "TRUE") then Some (value.Bool true) else
    if same_word word (codes "FALSE") then Some (value.Bool false) else
    option_or (option_map value.Time (duration_value word)) (option_map (value_of_number t) (dint_of word))
