-- Which numbers are in the order of which an operator asks.
use Rattle.std.specs.Prelude.{Bool, Option, Some, None, Result, Ok, ℤ, int_le, int_lt}
use Rattle.sfc_base.specs.declared.value.Value.{Value}
use Rattle.sfc_base.specs.Values.{number}
use Rattle.sfc_expr.specs.declared.fault.Fault.{Fault}
use Rattle.sfc_expr.specs.declared.operator.Operator.{Operator}
use Rattle.sfc_expr.specs.declared.operator.Operator.TheVariants as op
use Rattle.sfc_expr.specs.Meaning.{◌>>=◌}

-- whether they are, if the operator asks for an order
abbrev pub in_order : Operator → ℤ → ℤ → Option Bool
in_order op.Less a b = Some (int_lt a b)
in_order op.Greater a b = Some (int_lt b a)
in_order op.LessOrEqual a b = Some (int_le a b)
in_order op.GreaterOrEqual a b = Some (int_le b a)
in_order _ a b = None

-- the number of a value
abbrev pub number_of : Result Value Fault → Result ℤ Fault
number_of r = r >>= λ x. Ok (number x)
