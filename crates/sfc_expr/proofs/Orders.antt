-- An order of numbers is what its operator gives.
use Rattle.std.proofs.Common.{◌≡◌, Bool, Some, ℤ, ap}
use Rattle.std.specs.Prelude.{Result, Ok, Err, int_le, int_lt}
use Rattle.sfc_base.specs.declared.value.Value.{Value}
use Rattle.sfc_base.specs.declared.var_type.VarType.{VarType}
use Rattle.sfc_base.specs.Values.{number}
use Rattle.sfc_expr.specs.declared.fault.Fault.{Fault}
use Rattle.sfc_expr.specs.declared.operator.Operator.{Operator}
use Rattle.sfc_expr.specs.declared.operator.Operator.TheVariants as op
use Rattle.sfc_expr.specs.Meaning.{◌>>=◌, of_truth, operated}
use Rattle.sfc_expr.specs.Private.Orders.{in_order, number_of}

-- by the operator
by_operator : (o : Operator) (t : VarType) (x y : Value) (h : Bool)
    → in_order o (number x) (number y) ≡ Some h → operated o t x y ≡ of_truth h
by_operator op.Less t x y h e = let same : int_lt (number x) (number y) ≡ h = cc in ap of_truth same
by_operator op.Greater t x y h e = let same : int_lt (number y) (number x) ≡ h = cc in ap of_truth same
by_operator op.LessOrEqual t x y h e = let same : int_le (number x) (number y) ≡ h = cc in ap of_truth same
by_operator op.GreaterOrEqual t x y h e = let same : int_le (number y) (number x) ≡ h = cc in ap of_truth same
by_operator op.Or t x y h e = absurd cc
by_operator op.Xor t x y h e = absurd cc
by_operator op.And t x y h e = absurd cc
by_operator op.Equal t x y h e = absurd cc
by_operator op.NotEqual t x y h e = absurd cc
by_operator op.Add t x y h e = absurd cc
by_operator op.Subtract t x y h e = absurd cc
by_operator op.Multiply t x y h e = absurd cc
by_operator op.Divide t x y h e = absurd cc
by_operator op.Modulo t x y h e = absurd cc

-- of two values whose numbers are known
pub ordered : (o : Operator) (t : VarType) (r s : Result Value Fault) (n m : ℤ) (h : Bool)
    → number_of r ≡ Ok n → number_of s ≡ Ok m → in_order o n m ≡ Some h
    → (r >>= λ x. s >>= λ y. operated o t x y) ≡ of_truth h
ordered o t (Ok x) (Ok y) n m h e f g =
    let ex : number x ≡ n = cc in
    let ey : number y ≡ m = cc in
    by_operator o t x y h (rw (ex, ey) g)
ordered o t (Err fault) s n m h e f g = absurd cc
ordered o t (Ok x) (Err fault) n m h e f g = absurd cc
