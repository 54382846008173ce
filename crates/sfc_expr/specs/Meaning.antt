-- The value of an expression, or its first fault (3.3.1).
use Rattle.std.specs.Prelude.{◌&&◌, ◌||◌, Bool, not, Result, Ok, Err, if◌then◌else◌}
use Rattle.std.specs.Prelude.{ℤ, pos, ◌+ℤ◌, ◌-ℤ◌, ◌*ℤ◌, neg_ℤ, int_le, int_lt, int_div, int_rem}
use Rattle.std.specs.Bool.{beq}
use Rattle.std.specs.Ordering.{int_eq}
use Rattle.sfc_base.specs.declared.var_type.VarType.{VarType}
use Rattle.sfc_base.specs.declared.var_type.VarType.TheVariants as types
use Rattle.sfc_base.specs.declared.value.Value.{Value}
use Rattle.sfc_base.specs.declared.value.Value.TheVariants as value
use Rattle.sfc_expr.specs.declared.fault.Fault.{Fault}
use Rattle.sfc_expr.specs.declared.fault.Fault.TheVariants.{DivZero, Range}
use Rattle.sfc_expr.specs.declared.operator.Operator.{Operator}
use Rattle.sfc_expr.specs.declared.operator.Operator.TheVariants as op
use Rattle.sfc_base.specs.Values.{truth, number, is_in_range, of_number}
use Rattle.sfc_expr.specs.Trees.{Expression, Literal, Read, StepActive, StepTime, ActionQ, Not, Minus, Binary}
use Rattle.sfc_expr.specs.Environment.{Environment, value_at}

-- what follows from a value; a fault stays
infixl 10 ◌>>=◌
abbrev pub ◌>>=◌ : {A B : Type 0} → Result A Fault → (A → Result B Fault) → Result B Fault
(Ok x) >>= f = f x
(Err fault) >>= f = Err fault

abbrev pub of_truth : Bool → Result Value Fault
of_truth b = Ok (value.Bool b)

-- whether a value is TRUE; a fault stays
abbrev pub truth_of : Result Value Fault → Result Bool Fault
truth_of r = r >>= λ x. Ok (truth x)

-- a result of this type, or the fault Range where the number lies outside the type's range
abbrev pub in_type : VarType → ℤ → Result Value Fault
in_type t n = if is_in_range t n then Ok (of_number t n) else Err Range

-- two values of a type are equal
abbrev pub are_equal : VarType → Value → Value → Bool
are_equal types.Bool x y = beq (truth x) (truth y)
are_equal _ x y = int_eq (number x) (number y)

-- towards zero; a division by zero is a fault
abbrev pub quotient : VarType → ℤ → ℤ → Result Value Fault
quotient t a b = if int_eq b (pos 0) then Err DivZero else in_type t (int_div a b)

-- what the division leaves, with the sign of the left operand; by zero it is 0 (our choice)
abbrev pub remainder : VarType → ℤ → ℤ → Result Value Fault
remainder t a b = in_type t (if int_eq b (pos 0) then pos 0 else int_rem a b)

-- an operator on two values of a type
abbrev pub operated : Operator → VarType → Value → Value → Result Value Fault
operated op.Or t x y = of_truth (truth x || truth y)
operated op.Xor t x y = of_truth (not (beq (truth x) (truth y)))
operated op.And t x y = of_truth (truth x && truth y)
operated op.Equal t x y = of_truth (are_equal t x y)
operated op.NotEqual t x y = of_truth (not (are_equal t x y))
operated op.Less t x y = of_truth (int_lt (number x) (number y))
operated op.Greater t x y = of_truth (int_lt (number y) (number x))
operated op.LessOrEqual t x y = of_truth (int_le (number x) (number y))
operated op.GreaterOrEqual t x y = of_truth (int_le (number y) (number x))
operated op.Add t x y = in_type t (number x +ℤ number y)
operated op.Subtract t x y = in_type t (number x -ℤ number y)
operated op.Multiply t x y = in_type t (number x *ℤ number y)
operated op.Divide t x y = quotient t (number x) (number y)
operated op.Modulo t x y = remainder t (number x) (number y)

-- operands from left to right, and always both, also those of AND and OR (our choice)
abbrev pub value_of : Environment → Expression → Result Value Fault
value_of env (Literal x) = Ok x
value_of env (Read v) = Ok (value_at env v)
value_of env (StepActive s) = of_truth (env.is_active s)
value_of env (StepTime s) = Ok (value.Time (env.time_of s))
value_of env ActionQ = of_truth env.q
value_of env (Not e) = value_of env e >>= λ x. of_truth (not (truth x))
value_of env (Minus t e) = value_of env e >>= λ x. in_type t (neg_ℤ (number x))
value_of env (Binary o t a b) = value_of env a >>= λ x. value_of env b >>= λ y. operated o t x y
