-- The types that expressions have by themselves (3.3.1).
use Rattle.std.specs.Prelude.{Option, Some, None}
use Rattle.sfc_base.specs.declared.var_type.VarType.{VarType}
use Rattle.sfc_base.specs.declared.var_type.VarType.TheVariants as types
use Rattle.sfc_text.specs.declared.tree.Literal.{Literal}
use Rattle.sfc_text.specs.declared.tree.Literal.TheVariants as literal
use Rattle.sfc_text.specs.Trees as text
use Rattle.sfc_check.specs.declared.family.Family.{Family}
use Rattle.sfc_check.specs.declared.family.Family.TheVariants as family
use Rattle.sfc_check.specs.declared.referent.Referent.{Referent}
use Rattle.sfc_check.specs.Families.{operator_of, family_of}
use Rattle.sfc_check.specs.Scopes.{Names, referent_of, type_of_referent}

abbrev pub first_of : Option VarType → Option VarType → Option VarType
first_of (Some t) other = Some t
first_of None other = other

-- an integer without a type has none
abbrev pub literal_type : Literal → Option VarType
literal_type (literal.Integer n) = None
literal_type (literal.Int n) = Some types.Int
literal_type (literal.Dint n) = Some types.Dint
literal_type (literal.Bool b) = Some types.Bool
literal_type (literal.Time d) = Some types.Time

-- that of what a name stands for; a name that is not found has none
abbrev pub name_type : Option Referent → Option VarType
name_type (Some r) = Some (type_of_referent r)
name_type None = None

-- sums and products have that of the left operand, else of the right one; other operators give a BOOL
abbrev pub natural_by : Family → Option VarType → Option VarType → Option VarType
natural_by family.Sum left right = first_of left right
natural_by family.Product left right = first_of left right
natural_by _ left right = Some types.Bool

-- the type that an expression has by itself
abbrev pub natural : Names → text.Tree → Option VarType
natural names (text.Constant l) = literal_type l
natural names (text.Named v) = name_type (referent_of names v)
natural names (text.Not a) = Some types.Bool
natural names (text.Minus a) = natural names a
natural names (text.Binary o a b) = natural_by (family_of (operator_of o)) (natural names a) (natural names b)
