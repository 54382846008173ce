-- The typed tree that a tree of the text is, or its first type fault (3.3.1, 3.3.2).
use Rattle.std.specs.Prelude.{ℕ, List, true, false, Option, Some, None, Result, Ok, Err, ℤ, pos, if◌then◌else◌}
use Rattle.std.specs.Ordering.{int_eq}
use Rattle.sfc_base.specs.declared.var_type.VarType.{VarType}
use Rattle.sfc_base.specs.declared.var_type.VarType.TheVariants as types
use Rattle.sfc_text.specs.declared.tree.Literal as text_literal
use Rattle.sfc_text.specs.declared.tree.Literal.TheVariants as literal
use Rattle.sfc_text.specs.declared.expression.Variable as text_variable
use Rattle.sfc_text.specs.Trees as text
use Rattle.sfc_base.specs.declared.value.Value.{Value}
use Rattle.sfc_base.specs.declared.value.Value.TheVariants as value
use Rattle.sfc_expr.specs.declared.fault.Fault.{Fault}
use Rattle.sfc_check.specs.declared.family.Family.{Family}
use Rattle.sfc_check.specs.declared.family.Family.TheVariants as family
use Rattle.sfc_check.specs.declared.referent.Referent.{Referent}
use Rattle.sfc_base.specs.declared.references.Variable.{Variable}
use Rattle.sfc_base.specs.Values.{is_same_type}
use Rattle.sfc_expr.specs.Meaning.{in_type}
use Rattle.sfc_expr.specs.Types.{integer_type, sum_type}
use Rattle.sfc_expr.specs.Trees.{Expression, Literal, Not, Minus, Binary, Body, Nothing, Assign, If, Branches, NoBranch, When, Otherwise}
use Rattle.sfc_check.specs.Scopes.{Names, referent_of, type_of_referent, reading_of}
use Rattle.sfc_check.specs.TypeFaults.{Checked, ◌>>=◌, Unknown, WrongType, LiteralRange, NotAssignable}
use Rattle.sfc_check.specs.Families.{operator_of, family_of}
use Rattle.sfc_check.specs.Naturals.{natural}

-- ---- literals and names of a wanted type

-- the number as a value of the type, which it has to fit
abbrev pub or_range : Result Value Fault → Checked Value
or_range (Ok x) = Ok x
or_range (Err fault) = Err LiteralRange

abbrev pub fitting : VarType → ℤ → Checked Value
fitting t n = or_range (in_type t n)

-- An integer without a type, its sign included: 0 and 1 are FALSE and TRUE, INT and DINT take their ranges, and there
-- is none of type TIME.
abbrev pub checked_integer : ℤ → VarType → Checked Value
checked_integer n types.Bool =
    if int_eq n (pos 0) then Ok (value.Bool false) else if int_eq n (pos 1) then Ok (value.Bool true) else Err LiteralRange
checked_integer n types.Int = fitting types.Int n
checked_integer n types.Dint = fitting types.Dint n
checked_integer n types.Time = Err WrongType

-- what was found with its type, which has to be the wanted one
abbrev pub if_wanted : {A : Type 0} → VarType → VarType → Checked A → Checked A
if_wanted t wanted x = if is_same_type t wanted then x else Err WrongType

-- a literal with a type: that has to be the wanted one, and then the number has to fit it
abbrev pub checked_literal : text_literal.Literal → VarType → Checked Value
checked_literal (literal.Integer n) t = checked_integer n t
checked_literal (literal.Int n) t = if_wanted types.Int t (fitting types.Int n)
checked_literal (literal.Dint n) t = if_wanted types.Dint t (fitting types.Dint n)
checked_literal (literal.Bool b) t = if_wanted types.Bool t (Ok (value.Bool b))
checked_literal (literal.Time d) t = if_wanted types.Time t (fitting types.Time d)

-- a name has to be found, and then to have the wanted type
abbrev pub checked_name : Option Referent → VarType → Checked Expression
checked_name None t = Err Unknown
checked_name (Some r) t = if_wanted (type_of_referent r) t (Ok (reading_of r))

-- ---- expressions of a wanted type

abbrev pub or_wrong : {A : Type 0} → Option A → Checked A
or_wrong (Some x) = Ok x
or_wrong None = Err WrongType

-- the type that a comparison works on
abbrev pub compared : Option VarType → Option VarType → VarType
compared (Some t) right = t
compared None (Some t) = t
compared None None = types.Dint

-- a BOOL has no order
abbrev pub ordered : VarType → Checked VarType
ordered types.Bool = Err WrongType
ordered t = Ok t

-- The type that operands are checked against where the operator is to give a wanted type; left and right are their
-- natural types. What NOT, AND, XOR, OR and comparisons give is a BOOL.
abbrev pub operand_type : Family → VarType → Option VarType → Option VarType → Checked VarType
operand_type family.Logical wanted left right = if_wanted types.Bool wanted (Ok types.Bool)
operand_type family.Equality wanted left right = if_wanted types.Bool wanted (Ok (compared left right))
operand_type family.Order wanted left right = if_wanted types.Bool wanted (ordered (compared left right))
operand_type family.Sum wanted left right = or_wrong (sum_type wanted)
operand_type family.Product wanted left right = or_wrong (integer_type wanted)

-- The expression as one of the wanted type: first the operator's own types, then its operands, left first. An integer
-- without a type gets the type wanted of it, and an operator the type of its operands; nothing is folded.
abbrev pub checked : Names → text.Tree → VarType → Checked Expression
checked names (text.Constant l) t = checked_literal l t >>= λ x. Ok (Literal x)
checked names (text.Named v) t = checked_name (referent_of names v) t
checked names (text.Not a) t = if_wanted types.Bool t (checked names a types.Bool >>= λ x. Ok (Not x))
checked names (text.Minus a) t = or_wrong (integer_type t) >>= λ u. checked names a u >>= λ x. Ok (Minus u x)
checked names (text.Binary o a b) t =
    operand_type (family_of (operator_of o)) t (natural names a) (natural names b) >>= λ u.
    checked names a u >>= λ x. checked names b u >>= λ y. Ok (Binary (operator_of o) u x y)

-- ---- statements

abbrev pub or_unknown : {A : Type 0} → Option A → Checked A
or_unknown (Some x) = Ok x
or_unknown None = Err Unknown

abbrev pub without_part : {A : Type 0} → Option (List ℕ) → Checked A → Checked A
without_part None x = x
without_part (Some part) x = Err NotAssignable

-- the variable that an assignment is to, and its type: nothing with a dot can be assigned to
abbrev pub checked_target : Names → text_variable.Variable → Checked (Variable × VarType)
checked_target names v = without_part v.part (or_unknown (names.variable v.name))

-- Statements in text order: of an assignment the target before the value; of an IF its branches in text order, a
-- condition before its statements. A branch that stands outside an IF, or a statement among branches, says nothing: no
-- text has them.
abbrev mutual
  pub checked_body : Names → text.Block → Checked Body
  checked_body names text.Nothing = Ok Nothing
  checked_body names (text.Assign v e rest) =
      checked_target names v >>= λ target. checked names e target.1 >>= λ x.
      checked_body names rest >>= λ body. Ok (Assign target.0 x body)
  checked_body names (text.If bs rest) =
      checked_branches names bs >>= λ branches. checked_body names rest >>= λ body. Ok (If branches body)
  checked_body names _ = Ok Nothing

  pub checked_branches : Names → text.Block → Checked Branches
  checked_branches names text.Nothing = Ok NoBranch
  checked_branches names (text.When e bs rest) =
      checked names e types.Bool >>= λ x. checked_body names bs >>= λ body.
      checked_branches names rest >>= λ branches. Ok (When x body branches)
  checked_branches names (text.Otherwise bs rest) =
      checked_body names bs >>= λ body. checked_branches names rest >>= λ branches. Ok (Otherwise body branches)
  checked_branches names _ = Ok NoBranch
