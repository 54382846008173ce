-- Values, their types, and the ranges of types (2.3.1).
use Rattle.std.specs.Prelude.{◌^◌, ◌-◌, ◌&&◌, Bool, true, false}
use Rattle.std.specs.Prelude.{ℤ, pos, neg_ℤ, int_le}
use Rattle.sfc_base.specs.declared.var_type.VarType.{VarType}
use Rattle.sfc_base.specs.declared.var_type.VarType.TheVariants as types
use Rattle.sfc_base.specs.declared.value.Value.{Value}
use Rattle.sfc_base.specs.declared.value.Value.TheVariants as value

abbrev pub type_of : Value → VarType
type_of (value.Bool b) = types.Bool
type_of (value.Int n) = types.Int
type_of (value.Dint n) = types.Dint
type_of (value.Time t) = types.Time

-- two types are one
abbrev pub is_same_type : VarType → VarType → Bool
is_same_type types.Bool types.Bool = true
is_same_type types.Int types.Int = true
is_same_type types.Dint types.Dint = true
is_same_type types.Time types.Time = true
is_same_type t u = false

-- what a variable begins with where no initial value was written (2.4.2)
abbrev pub default_value : VarType → Value
default_value types.Bool = value.Bool false
default_value types.Int = value.Int (pos 0)
default_value types.Dint = value.Dint (pos 0)
default_value types.Time = value.Time (pos 0)

-- An operand is read by `truth` where an operator works on BOOL and by `number` where it works on numbers. In a tree
-- whose types were checked the operand has that kind; so that each tree has a meaning, a number is FALSE here and a
-- BOOL is 0.
abbrev pub truth : Value → Bool
truth (value.Bool b) = b
truth _ = false

-- the number, of a TIME in microseconds
abbrev pub number : Value → ℤ
number (value.Bool b) = pos 0
number (value.Int n) = n
number (value.Dint n) = n
number (value.Time t) = t

-- INT has 16 bits and a sign, DINT 32; TIME is from -2^62 to 2^62 microseconds (our choice); no number is a BOOL
abbrev pub is_in_range : VarType → ℤ → Bool
is_in_range types.Bool n = false
is_in_range types.Int n = int_le (neg_ℤ (pos (2 ^ 15))) n && int_le n (pos (2 ^ 15 - 1))
is_in_range types.Dint n = int_le (neg_ℤ (pos (2 ^ 31))) n && int_le n (pos (2 ^ 31 - 1))
is_in_range types.Time n = int_le (neg_ℤ (pos (2 ^ 62))) n && int_le n (pos (2 ^ 62))

-- the number as a value of the type; a BOOL has none
abbrev pub of_number : VarType → ℤ → Value
of_number types.Bool n = value.Bool false
of_number types.Int n = value.Int n
of_number types.Dint n = value.Dint n
of_number types.Time n = value.Time n
