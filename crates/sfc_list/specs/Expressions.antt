-- The text of expressions (3.3.1, Table 52): one space round a binary operator, and parentheses where the text would
-- mean another tree without them, and nowhere else.
use Rattle.std.specs.Prelude.{◌++◌, ℕ, ◌+◌, nat_lt, List, codes, if◌then◌else◌}
use Rattle.sfc_expr.specs.declared.operator.Operator.{Operator}
use Rattle.sfc_expr.specs.declared.operator.Operator.TheVariants as operator
use Rattle.sfc_expr.specs.Trees.{Expression, Literal, Read, StepActive, StepTime, ActionQ, Not, Minus, Binary}
use Rattle.sfc_plant.specs.Spaces.{Space}
use Rattle.sfc_list.specs.Values.{literal_text}
use Rattle.sfc_plant.specs.Names.{variable_name, step_name}

abbrev pub operator_text : Operator → List ℕ
operator_text operator.Or = codes "OR"
operator_text operator.Xor = codes "XOR"
operator_text operator.And = codes "AND"
operator_text operator.Equal = codes "="
operator_text operator.NotEqual = codes "<>"
operator_text operator.Less = codes "<"
operator_text operator.Greater = codes ">"
operator_text operator.LessOrEqual = codes "<="
operator_text operator.GreaterOrEqual = codes ">="
operator_text operator.Add = codes "+"
operator_text operator.Subtract = codes "-"
operator_text operator.Multiply = codes "*"
operator_text operator.Divide = codes "/"
operator_text operator.Modulo = codes "MOD"

-- how tightly an operator binds: OR the least
abbrev pub level : Operator → ℕ
level operator.Or = 0
level operator.Xor = 1
level operator.And = 2
level operator.Equal = 3
level operator.NotEqual = 3
level operator.Less = 4
level operator.Greater = 4
level operator.LessOrEqual = 4
level operator.GreaterOrEqual = 4
level operator.Add = 5
level operator.Subtract = 5
level operator.Multiply = 6
level operator.Divide = 6
level operator.Modulo = 6

-- the level of NOT and minus, above all binary operators
abbrev pub prefix_level : ℕ
prefix_level = 7

abbrev pub level_of : Expression → ℕ
level_of (Binary o t a b) = level o
level_of _ = prefix_level

-- an operand that has to bind as tightly as this level
abbrev pub operand : ℕ → Expression → List ℕ → List ℕ
operand wanted e text = if nat_lt (level_of e) wanted then codes "(" ++ text ++ codes ")" else text

-- The expression in the body of the action of this name, or in a condition, which has no use for it. Operators of one
-- level group to the left, so that a right operand has to bind more tightly.
abbrev pub expression_text : Space → List ℕ → Expression → List ℕ
expression_text space own (Literal v) = literal_text v
expression_text space own (Read v) = variable_name space v
expression_text space own (StepActive s) = step_name space s ++ codes ".X"
expression_text space own (StepTime s) = step_name space s ++ codes ".T"
expression_text space own ActionQ = own ++ codes ".Q"
expression_text space own (Not e) = codes "NOT " ++ operand prefix_level e (expression_text space own e)
expression_text space own (Minus t e) = codes "-" ++ operand prefix_level e (expression_text space own e)
expression_text space own (Binary o t a b) =
    operand (level o) a (expression_text space own a) ++ codes " " ++ operator_text o ++ codes " "
    ++ operand (level o + 1) b (expression_text space own b)
