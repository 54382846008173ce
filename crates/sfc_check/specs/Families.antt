-- The operators of a text, and which of them share a rule for types (3.3.1).
use Rattle.sfc_text.specs.declared.expression.Operator as text
use Rattle.sfc_text.specs.declared.expression.Operator.TheVariants as written
use Rattle.sfc_expr.specs.declared.operator.Operator.{Operator}
use Rattle.sfc_expr.specs.declared.operator.Operator.TheVariants as op
use Rattle.sfc_check.specs.declared.family.Family.{Family}
use Rattle.sfc_check.specs.declared.family.Family.TheVariants as family

-- the operators of typed trees are those of the text
abbrev pub operator_of : text.Operator → Operator
operator_of written.Or = op.Or
operator_of written.Xor = op.Xor
operator_of written.And = op.And
operator_of written.Equal = op.Equal
operator_of written.NotEqual = op.NotEqual
operator_of written.Less = op.Less
operator_of written.Greater = op.Greater
operator_of written.LessOrEqual = op.LessOrEqual
operator_of written.GreaterOrEqual = op.GreaterOrEqual
operator_of written.Add = op.Add
operator_of written.Subtract = op.Subtract
operator_of written.Multiply = op.Multiply
operator_of written.Divide = op.Divide
operator_of written.Modulo = op.Modulo

-- operators with one rule for types
abbrev pub family_of : Operator → Family
family_of op.Or = family.Logical
family_of op.Xor = family.Logical
family_of op.And = family.Logical
family_of op.Equal = family.Equality
family_of op.NotEqual = family.Equality
family_of op.Less = family.Order
family_of op.Greater = family.Order
family_of op.LessOrEqual = family.Order
family_of op.GreaterOrEqual = family.Order
family_of op.Add = family.Sum
family_of op.Subtract = family.Sum
family_of op.Multiply = family.Product
family_of op.Divide = family.Product
family_of op.Modulo = family.Product
