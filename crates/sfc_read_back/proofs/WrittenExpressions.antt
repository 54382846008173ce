-- What a listing spells of an expression is checked as that expression again.
use Rattle.std.proofs.Common.{◌≡◌, ◌&&◌, ℕ, List, Bool, true, false, cond, Option, Some, None, IfSome, ℤ, pos, Ok, Err, IfOk, refl, ap, subst, ◌∙◌}
use Rattle.std.specs.Ordering.{int_eq}
use Rattle.std.specs.Prelude.{codes}
use Rattle.sfc_base.specs.Case.{same_word}
use Rattle.sfc_base.specs.declared.var_type.VarType.{VarType}
use Rattle.sfc_base.specs.declared.var_type.VarType.TheVariants as types
use Rattle.sfc_text.specs.declared.tree.Literal as text_literal
use Rattle.sfc_text.specs.declared.tree.Literal.TheVariants as literal
use Rattle.sfc_text.specs.declared.expression.Variable as text_variable
use Rattle.sfc_text.specs.Trees as text
use Rattle.sfc_base.specs.declared.value.Value.{Value}
use Rattle.sfc_base.specs.declared.value.Value.TheVariants as value
use Rattle.sfc_expr.specs.declared.fault.Fault.TheVariants as faults
use Rattle.sfc_expr.specs.declared.operator.Operator.{Operator}
use Rattle.sfc_expr.specs.declared.operator.Operator.TheVariants as op
use Rattle.sfc_load.specs.sfc_check.declared.family.Family.{Family}
use Rattle.sfc_load.specs.sfc_check.declared.family.Family.TheVariants as family
use Rattle.sfc_load.specs.sfc_check.declared.referent.Referent.{Referent}
use Rattle.sfc_load.specs.sfc_check.declared.referent.Referent.TheVariants as referent
use Rattle.sfc_base.specs.declared.references.Variable.{Variable}
use Rattle.sfc_base.specs.declared.references.StepId.{StepId}
use Rattle.sfc_base.specs.Values.{is_in_range, of_number}
use Rattle.sfc_expr.specs.Types.{integer_type}
use Rattle.sfc_expr.specs.Trees.{Expression, Literal, Not, Minus, Binary}
use Rattle.sfc_load.specs.sfc_check.Scopes.{Names, IgnoresCase, found, of_variable, of_step, referent_of, type_of_referent, reading_of}
use Rattle.sfc_load.specs.sfc_check.TypeFaults.{Checked, LiteralRange, ◌>>=◌}
use Rattle.sfc_load.specs.sfc_check.Families.{operator_of, family_of}
use Rattle.sfc_load.specs.sfc_check.Naturals.{natural, natural_by, name_type, literal_type}
use Rattle.sfc_load.specs.sfc_check.Checking.{or_wrong, or_range, fitting, checked_integer, if_wanted, checked_literal, checked_name, compared, ordered, operand_type, checked}
use Rattle.sfc_load.proofs.of_sfc_check.CheckedTypes.{on_checked, wanted}
use Rattle.sfc_plant.specs.Spaces.{Space}
use Rattle.sfc_plant.specs.Names.{variable_name, step_name}
use Rattle.sfc_read_back.specs.WrittenTerms.{literal_tree, operator_tree, plain_name, name_with, expression_tree}

-- ---- types

-- a type is the wanted one where it is that type
pub if_same : {A : Type 0} (t : VarType) (r : Checked A) → if_wanted t t r ≡ r
if_same types.Bool r = refl
if_same types.Int r = refl
if_same types.Dint r = refl
if_same types.Time r = refl

-- ---- literals

-- the literal of a value is a literal of this type, and means that value
pub record IsLiteralOf (t : VarType) (x : Value) : Type 0 where
  pub checks : checked_literal (literal_tree x) t ≡ Ok x
  pub natural : literal_type (literal_tree x) ≡ Some t

in_range : (n : ℤ) (fits : Bool) (t : VarType) → is_in_range t n ≡ fits
    → ((fitting t n ≡ Ok (of_number t n)) → IsLiteralOf t (of_number t n))
    → IfOk (or_range (cond fits (Ok (of_number t n)) (Err faults.Range))) (IsLiteralOf t)
in_range n true t e says = says (ap (λ b. or_range (cond b (Ok (of_number t n)) (Err faults.Range))) e)
in_range n false t e says = tt

int_fits : (n : ℤ) → IfOk (fitting types.Int n) (IsLiteralOf types.Int)
int_fits n = in_range n (is_in_range types.Int n) types.Int refl (λ e. record { checks = e; natural = refl })

dint_fits : (n : ℤ) → IfOk (fitting types.Dint n) (IsLiteralOf types.Dint)
dint_fits n = in_range n (is_in_range types.Dint n) types.Dint refl (λ e. record { checks = e; natural = refl })

time_fits : (n : ℤ) → IfOk (fitting types.Time n) (IsLiteralOf types.Time)
time_fits n = in_range n (is_in_range types.Time n) types.Time refl (λ e. record { checks = e; natural = refl })

truth_back : (b : Bool) → IsLiteralOf types.Bool (value.Bool b)
truth_back b = record { checks = refl; natural = refl }

truth_of : (zero one : Bool)
    → IfOk (cond zero (Ok (value.Bool false)) (cond one (Ok (value.Bool true)) (Err LiteralRange))) (IsLiteralOf types.Bool)
truth_of true one = truth_back false
truth_of false true = truth_back true
truth_of false false = tt

integer_back : (n : ℤ) (t : VarType) → IfOk (checked_integer n t) (IsLiteralOf t)
integer_back n types.Bool = truth_of (int_eq n (pos 0)) (int_eq n (pos 1))
integer_back n types.Int = int_fits n
integer_back n types.Dint = dint_fits n
integer_back n types.Time = tt

-- of a literal that has its type
typed_back : (t u : VarType) (r : Checked Value) → IfOk r (IsLiteralOf t) → IfOk (if_wanted t u r) (IsLiteralOf u)
typed_back t u r h = wanted t u (IsLiteralOf u) r (λ e. subst (λ (z : VarType). IfOk r (IsLiteralOf z)) e h)

pub literal_back : (l : text_literal.Literal) (t : VarType) → IfOk (checked_literal l t) (IsLiteralOf t)
literal_back (literal.Integer n) t = integer_back n t
literal_back (literal.Int n) t = typed_back types.Int t (fitting types.Int n) (int_fits n)
literal_back (literal.Dint n) t = typed_back types.Dint t (fitting types.Dint n) (dint_fits n)
literal_back (literal.Bool b) t = typed_back types.Bool t (Ok (value.Bool b)) (truth_back b)
literal_back (literal.Time d) t = typed_back types.Time t (fitting types.Time d) (time_fits d)

-- ---- operators

pub operator_back : (o : Operator) → operator_of (operator_tree o) ≡ o
operator_back op.Or = refl
operator_back op.Xor = refl
operator_back op.And = refl
operator_back op.Equal = refl
operator_back op.NotEqual = refl
operator_back op.Less = refl
operator_back op.Greater = refl
operator_back op.LessOrEqual = refl
operator_back op.GreaterOrEqual = refl
operator_back op.Add = refl
operator_back op.Subtract = refl
operator_back op.Multiply = refl
operator_back op.Divide = refl
operator_back op.Modulo = refl

-- where both operands have the type that was found for them, it is found again, and the whole has the wanted type
record KeepsType (f : Family) (t u : VarType) : Type 0 where
  given : operand_type f t (Some u) (Some u) ≡ Ok u
  natural : natural_by f (Some u) (Some u) ≡ Some t

ordered_again : (u : VarType) → IfOk (ordered u) (λ v. ordered v ≡ Ok v)
ordered_again types.Bool = tt
ordered_again types.Int = refl
ordered_again types.Dint = refl
ordered_again types.Time = refl

order_again : (t u v : VarType) → types.Bool ≡ t → ordered v ≡ Ok v → KeepsType family.Order t v
order_again t u v e h = record {
  given = subst (λ (z : VarType). if_wanted types.Bool z (ordered v) ≡ Ok v) e h;
  natural = ap Some e;
}

weaker : {A : Type 0} (P Q : A → Type 0) (r : Checked A) → ((x : A) → P x → Q x) → IfOk r P → IfOk r Q
weaker P Q (Ok x) k h = k x h
weaker P Q (Err fault) k h = tt

operands_again : (f : Family) (t : VarType) (left right : Option VarType) → IfOk (operand_type f t left right) (KeepsType f t)
operands_again family.Logical t left right =
    wanted types.Bool t (KeepsType family.Logical t) (Ok types.Bool)
    (λ e. subst (λ (z : VarType). KeepsType family.Logical z types.Bool) e (record { given = refl; natural = refl }))
operands_again family.Equality t left right =
    let u : VarType = compared left right in
    wanted types.Bool t (KeepsType family.Equality t) (Ok u)
    (λ e. subst (λ (z : VarType). KeepsType family.Equality z u) e (record { given = refl; natural = refl }))
operands_again family.Order t left right =
    let u : VarType = compared left right in
    wanted types.Bool t (KeepsType family.Order t) (ordered u)
    (λ e. weaker (λ v. ordered v ≡ Ok v) (KeepsType family.Order t) (ordered u) (λ v h. order_again t u v e h) (ordered_again u))
operands_again family.Sum types.Bool left right = tt
operands_again family.Sum types.Int left right = record { given = refl; natural = refl }
operands_again family.Sum types.Dint left right = record { given = refl; natural = refl }
operands_again family.Sum types.Time left right = record { given = refl; natural = refl }
operands_again family.Product types.Bool left right = tt
operands_again family.Product types.Int left right = record { given = refl; natural = refl }
operands_again family.Product types.Dint left right = record { given = refl; natural = refl }
operands_again family.Product types.Time left right = tt

-- ---- names

-- the declared spellings are the names that were found, but for case
pub record Spells (names : Names) (space : Space) (own : List ℕ) : Type 0 where
  pub variable : (name : List ℕ) (v : Variable × VarType) → names.variable name ≡ Some v → same_word (variable_name space v.0) name ≡ true
  pub step : (name : List ℕ) (s : StepId) → names.step name ≡ Some s → same_word (step_name space s) name ≡ true
  pub action : (name : List ℕ) → names.is_own_action name ≡ true → same_word own name ≡ true

module _ (names : Names) (ignores : IgnoresCase names) (space : Space) (own : List ℕ) (spells : Spells names space own) where
  pub variable_again : (name : List ℕ) (v : Variable × VarType) → names.variable name ≡ Some v
      → names.variable (variable_name space v.0) ≡ Some v
  variable_again name v e = ignores.variable (variable_name space v.0) name (spells.variable name v e) ∙ e

  step_again : (name : List ℕ) (s : StepId) → names.step name ≡ Some s → names.step (step_name space s) ≡ Some s
  step_again name s e = ignores.step (step_name space s) name (spells.step name s e) ∙ e

  action_again : (name : List ℕ) → names.is_own_action name ≡ true → names.is_own_action own ≡ true
  action_again name e = ignores.is_own_action own name (spells.action name e) ∙ e

  -- the name of what a name stands for
  abbrev spelled : Referent → text_variable.Variable
  spelled (referent.Variable v t) = plain_name (variable_name space v)
  spelled (referent.StepActive s) = name_with (step_name space s) (codes "X")
  spelled (referent.StepTime s) = name_with (step_name space s) (codes "T")
  spelled referent.ActionQ = name_with own (codes "Q")

  abbrev IsFoundAgain : Referent → Type 0
  IsFoundAgain r = referent_of names (spelled r) ≡ Some r

  plain_again : (name : List ℕ) (o : Option (Variable × VarType)) → names.variable name ≡ o → IfSome (of_variable o) IsFoundAgain
  plain_again name (Some v) e = ap of_variable (variable_again name v e)
  plain_again name None e = tt

  active_again : (name : List ℕ) (o : Option StepId) → names.step name ≡ o → IfSome (of_step referent.StepActive o) IsFoundAgain
  unfolding same_word
  active_again name (Some s) e = ap (of_step referent.StepActive) (step_again name s e)
  active_again name None e = tt

  time_again : (name : List ℕ) (o : Option StepId) → names.step name ≡ o → IfSome (of_step referent.StepTime o) IsFoundAgain
  unfolding same_word
  time_again name (Some s) e = ap (of_step referent.StepTime) (step_again name s e)
  time_again name None e = tt

  q_again : names.is_own_action own ≡ true → IsFoundAgain referent.ActionQ
  unfolding same_word
  q_again e = ap (λ (b : Bool). cond b (Some referent.ActionQ) None) e

  both_true : (a b : Bool) → a && b ≡ true → b ≡ true
  both_true true b e = e
  both_true false b e = cc

  own_again : (name : List ℕ) (a q : Bool) → a && names.is_own_action name ≡ q → IfSome (cond q (Some referent.ActionQ) None) IsFoundAgain
  own_again name a true e = q_again (action_again name (both_true a (names.is_own_action name) e))
  own_again name a false e = tt

  part_again : (name : List ℕ) (x t a : Bool)
      → IfSome (cond x (of_step referent.StepActive (names.step name)) (cond t (of_step referent.StepTime (names.step name))
      (cond (a && names.is_own_action name) (Some referent.ActionQ) None))) IsFoundAgain
  part_again name true t a = active_again name (names.step name) refl
  part_again name false true a = time_again name (names.step name) refl
  part_again name false false a = own_again name a (a && names.is_own_action name) refl

  found_again : (name : List ℕ) (part : Option (List ℕ)) → IfSome (found names name part) IsFoundAgain
  found_again name None = plain_again name (names.variable name) refl
  found_again name (Some part) = part_again name (same_word part (codes "X")) (same_word part (codes "T")) (same_word part (codes "Q"))

  -- ---- expressions

  -- what is spelled of an expression is checked as that expression, and has this type by itself
  pub record IsBack (t : VarType) (x : Expression) : Type 0 where
    pub checks : checked names (expression_tree space own x) t ≡ Ok x
    pub natural : natural names (expression_tree space own x) ≡ Some t

  constant_back : (t : VarType) (x : Value) → IsLiteralOf t x → IsBack t (Literal x)
  constant_back t x h = record { checks = ap (λ r. r >>= λ y. Ok (Literal y)) h.checks; natural = h.natural }

  read_back : (r : Referent) → IsFoundAgain r → IsBack (type_of_referent r) (reading_of r)
  read_back (referent.Variable v t) h = record { checks = ap (λ o. checked_name o t) h ∙ if_same t _; natural = ap name_type h }
  read_back (referent.StepActive s) h = record { checks = ap (λ o. checked_name o types.Bool) h; natural = ap name_type h }
  read_back (referent.StepTime s) h = record { checks = ap (λ o. checked_name o types.Time) h; natural = ap name_type h }
  read_back referent.ActionQ h = record { checks = ap (λ o. checked_name o types.Bool) h; natural = ap name_type h }

  name_back : (o : Option Referent) (t : VarType) → IfSome o IsFoundAgain → IfOk (checked_name o t) (IsBack t)
  name_back None t h = tt
  name_back (Some r) t h =
      wanted (type_of_referent r) t (IsBack t) (Ok (reading_of r)) (λ e. subst (λ (z : VarType). IsBack z (reading_of r)) e (read_back r h))

  not_back : (t : VarType) (x : Expression) → types.Bool ≡ t → IsBack types.Bool x → IsBack t (Not x)
  not_back t x e h = subst (λ (z : VarType). IsBack z (Not x)) e
      (record { checks = ap (λ r. r >>= λ y. Ok (Not y)) h.checks; natural = refl })

  -- a minus works on the type that it gives
  record IsMinusType (t u : VarType) : Type 0 where
    given : or_wrong (integer_type t) ≡ Ok u
    same : u ≡ t

  minus_type : (t : VarType) → IfOk (or_wrong (integer_type t)) (IsMinusType t)
  minus_type types.Bool = tt
  minus_type types.Int = record { given = refl; same = refl }
  minus_type types.Dint = record { given = refl; same = refl }
  minus_type types.Time = tt

  minus_back : (t u : VarType) (x : Expression) → IsMinusType t u → IsBack u x → IsBack t (Minus u x)
  minus_back t u x m h = record {
    checks = rw (m.given, h.checks) refl;
    natural = h.natural ∙ ap Some m.same;
  }

  binary_back : (o : Operator) (t u : VarType) (x y : Expression) → KeepsType (family_of o) t u → IsBack u x → IsBack u y
      → IsBack t (Binary o u x y)
  binary_back o t u x y k h g = record {
    checks = rw (operator_back o, h.natural, g.natural, k.given, h.checks, g.checks) refl;
    natural = rw (operator_back o, h.natural, g.natural) k.natural;
  }

  pub expression_back : (e : text.Tree) (t : VarType) → IfOk (checked names e t) (IsBack t)
  expression_back (text.Constant l) t =
      on_checked (IsLiteralOf t) (IsBack t) (checked_literal l t) _ (literal_back l t) (λ x h. constant_back t x h)
  expression_back (text.Named v) t = name_back (referent_of names v) t (found_again v.name v.part)
  expression_back (text.Not a) t =
      wanted types.Bool t (IsBack t) _
      (λ e. on_checked (IsBack types.Bool) (IsBack t) (checked names a types.Bool) _ (expression_back a types.Bool)
      (λ x h. not_back t x e h))
  expression_back (text.Minus a) t =
      on_checked (IsMinusType t) (IsBack t) (or_wrong (integer_type t)) _ (minus_type t)
      (λ u m. on_checked (IsBack u) (IsBack t) (checked names a u) _ (expression_back a u) (λ x h. minus_back t u x m h))
  expression_back (text.Binary o a b) t =
      let f : Family = family_of (operator_of o) in
      on_checked (KeepsType f t) (IsBack t) (operand_type f t (natural names a) (natural names b)) _
      (operands_again f t (natural names a) (natural names b))
      (λ u k. on_checked (IsBack u) (IsBack t) (checked names a u) _ (expression_back a u)
      (λ x h. on_checked (IsBack u) (IsBack t) (checked names b u) _ (expression_back b u)
      (λ y g. binary_back (operator_of o) t u x y k h g)))
