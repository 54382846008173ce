-- The types of expressions and statements (3.3.1, 3.3.2).
use Rattle.std.specs.Prelude.{◌≡◌, Bool, true, Option, Some, None, IfSome, IsTrue, ⊤}
use Rattle.sfc_base.specs.declared.var_type.VarType.{VarType}
use Rattle.sfc_base.specs.declared.var_type.VarType.TheVariants as types
use Rattle.sfc_base.specs.declared.value.Value.{Value}
use Rattle.sfc_base.specs.declared.value.Value.TheVariants as value
use Rattle.sfc_expr.specs.declared.operator.Operator.{Operator}
use Rattle.sfc_expr.specs.declared.operator.Operator.TheVariants as op
use Rattle.sfc_base.specs.declared.references.Variable.{Variable}
use Rattle.sfc_base.specs.declared.references.StepId.{StepId}
use Rattle.sfc_base.specs.Values.{type_of, is_in_range}
use Rattle.sfc_expr.specs.Trees.{Expression, Literal, Read, StepActive, StepTime, ActionQ, Not, Minus, Binary}
use Rattle.sfc_expr.specs.Trees.{Body, Nothing, Assign, If, Branches, NoBranch, When, Otherwise}
use Rattle.sfc_expr.specs.Environment.{Environment}

-- ---- values

-- the value lies in the range of its type
abbrev pub lies_in_range : Value → Bool
lies_in_range (value.Bool b) = true
lies_in_range (value.Int n) = is_in_range types.Int n
lies_in_range (value.Dint n) = is_in_range types.Dint n
lies_in_range (value.Time t) = is_in_range types.Time t

-- a value of this type
abbrev pub IsOf : VarType → Value → Type 0
IsOf t x = (type_of x ≡ t) × IsTrue (lies_in_range x)

-- ---- expressions

-- the variables that are declared, each with its type (2.4.3)
abbrev pub Declared : Type 0
Declared = Variable → Option VarType

-- OR, XOR and AND are for BOOL alone
abbrev pub logical_type : VarType → Option VarType
logical_type types.Bool = Some types.Bool
logical_type _ = None

-- `*`, `/`, MOD and the minus of an operand are for INT and DINT
abbrev pub integer_type : VarType → Option VarType
integer_type types.Int = Some types.Int
integer_type types.Dint = Some types.Dint
integer_type _ = None

-- `+` and `-` are for INT, DINT and TIME
abbrev pub sum_type : VarType → Option VarType
sum_type types.Bool = None
sum_type t = Some t

-- orderings are for INT, DINT and TIME, and give a BOOL
abbrev pub ordering_type : VarType → Option VarType
ordering_type types.Bool = None
ordering_type _ = Some types.Bool

-- the type of what an operator gives on two operands of a type, none where it is not for that type; `=` and `<>` are for all
abbrev pub result_type : Operator → VarType → Option VarType
result_type op.Or t = logical_type t
result_type op.Xor t = logical_type t
result_type op.And t = logical_type t
result_type op.Equal t = Some types.Bool
result_type op.NotEqual t = Some types.Bool
result_type op.Less t = ordering_type t
result_type op.Greater t = ordering_type t
result_type op.LessOrEqual t = ordering_type t
result_type op.GreaterOrEqual t = ordering_type t
result_type op.Add t = sum_type t
result_type op.Subtract t = sum_type t
result_type op.Multiply t = integer_type t
result_type op.Divide t = integer_type t
result_type op.Modulo t = integer_type t

abbrev pub HasType : Declared → Expression → VarType → Type 0
HasType declared (Literal x) t = IsOf t x
HasType declared (Read v) t = declared v ≡ Some t
HasType declared (StepActive s) t = t ≡ types.Bool
HasType declared (StepTime s) t = t ≡ types.Time
HasType declared ActionQ t = t ≡ types.Bool
HasType declared (Not e) t = (t ≡ types.Bool) × HasType declared e types.Bool
HasType declared (Minus u e) t = (integer_type u ≡ Some t) × HasType declared e u
HasType declared (Binary o u a b) t = (result_type o u ≡ Some t) × HasType declared a u × HasType declared b u

-- ---- statements

-- the value that is assigned has the type of its target; conditions are of type BOOL
abbrev mutual
  pub IsTyped : Declared → Body → Type 0
  IsTyped declared Nothing = ⊤
  IsTyped declared (Assign v e rest) = ((t : VarType) × (declared v ≡ Some t) × HasType declared e t) × IsTyped declared rest
  IsTyped declared (If bs rest) = AreTyped declared bs × IsTyped declared rest

  pub AreTyped : Declared → Branches → Type 0
  AreTyped declared NoBranch = ⊤
  AreTyped declared (When e body rest) = HasType declared e types.Bool × IsTyped declared body × AreTyped declared rest
  AreTyped declared (Otherwise body rest) = IsTyped declared body × AreTyped declared rest

-- ---- environments

-- each declared variable is given and forced to values of its type, and the time of each step lies in the range of TIME
pub record GivesTypes (declared : Declared) (env : Environment) : Type 0 where
  pub stored : (v : Variable) (t : VarType) → declared v ≡ Some t → IsOf t (env.stored_at v)
  pub forced : (v : Variable) (t : VarType) → declared v ≡ Some t → IfSome (env.forced_at v) (IsOf t)
  pub times : (s : StepId) → IsTrue (is_in_range types.Time (env.time_of s))
