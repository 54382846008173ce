-- What was checked has its type.
use Rattle.std.proofs.Common.{◌≡◌, ◌&&◌, ℕ, List, Bool, true, false, cond, Option, Some, None, IfSome, ℤ, pos, Result, Ok, Err, IfOk, refl, sym, subst}
use Rattle.std.specs.Ordering.{int_eq}
use Rattle.std.specs.Prelude.{codes}
use Rattle.sfc_base.specs.Case.{same_word}
use Rattle.sfc_base.specs.declared.var_type.VarType.{VarType}
use Rattle.sfc_base.specs.declared.var_type.VarType.TheVariants as types
use Rattle.sfc_text.specs.declared.tree.Literal as text_literal
use Rattle.sfc_text.specs.declared.tree.Literal.TheVariants as literal
use Rattle.sfc_text.specs.Trees as text
use Rattle.sfc_base.specs.declared.value.Value.{Value}
use Rattle.sfc_base.specs.declared.value.Value.TheVariants as value
use Rattle.sfc_expr.specs.declared.fault.Fault.{Fault}
use Rattle.sfc_expr.specs.declared.operator.Operator.{Operator}
use Rattle.sfc_expr.specs.declared.operator.Operator.TheVariants as op
use Rattle.sfc_check.specs.declared.referent.Referent.{Referent}
use Rattle.sfc_check.specs.declared.referent.Referent.TheVariants as referent
use Rattle.sfc_base.specs.declared.references.Variable.{Variable}
use Rattle.sfc_base.specs.declared.references.StepId.{StepId}
use Rattle.sfc_expr.specs.Meaning.{in_type}
use Rattle.sfc_expr.specs.Types.{Declared, IsOf, logical_type, integer_type, sum_type, ordering_type, result_type, HasType, IsTyped, AreTyped}
use Rattle.sfc_expr.specs.Trees.{Read}
use Rattle.sfc_check.specs.Scopes.{Names, Declares, found, of_variable, of_step, referent_of}
use Rattle.sfc_check.specs.TypeFaults.{Checked, LiteralRange, ◌>>=◌}
use Rattle.sfc_check.specs.Families.{operator_of, family_of}
use Rattle.sfc_check.specs.Naturals.{natural}
use Rattle.sfc_check.specs.Checking.{or_wrong, or_unknown, without_part, or_range, fitting, checked_integer, if_wanted, checked_literal, checked_name, compared, ordered, operand_type, checked, checked_target, checked_body, checked_branches}
use Rattle.sfc_expr.proofs.Typed.{in_type_of}

-- what holds of what was checked holds of what follows from it
pub on_checked : {A B : Type 0} (P : A → Type 0) (Q : B → Type 0) (r : Checked A) (f : A → Checked B) → IfOk r P → ((x : A) → P x → IfOk (f x) Q) → IfOk (r >>= f) Q
on_checked P Q (Ok x) f h k = k x h
on_checked P Q (Err fault) f h k = tt

-- where the wanted type is that one, and else there is nothing
pub wanted : {A : Type 0} (t u : VarType) (P : A → Type 0) (r : Checked A) → (t ≡ u → IfOk r P) → IfOk (if_wanted t u r) P
wanted types.Bool types.Bool P r k = k refl
wanted types.Bool types.Int P r k = tt
wanted types.Bool types.Dint P r k = tt
wanted types.Bool types.Time P r k = tt
wanted types.Int types.Bool P r k = tt
wanted types.Int types.Int P r k = k refl
wanted types.Int types.Dint P r k = tt
wanted types.Int types.Time P r k = tt
wanted types.Dint types.Bool P r k = tt
wanted types.Dint types.Int P r k = tt
wanted types.Dint types.Dint P r k = k refl
wanted types.Dint types.Time P r k = tt
wanted types.Time types.Bool P r k = tt
wanted types.Time types.Int P r k = tt
wanted types.Time types.Dint P r k = tt
wanted types.Time types.Time P r k = k refl

-- ---- literals

or_range_of : (t : VarType) (r : Result Value Fault) → IfOk r (IsOf t) → IfOk (or_range r) (IsOf t)
or_range_of t (Ok x) h = h
or_range_of t (Err fault) h = tt

fitting_of : (t : VarType) (n : ℤ) → IfOk (fitting t n) (IsOf t)
fitting_of t n = or_range_of t (in_type t n) (in_type_of t n)

truth_of : (zero one : Bool) → IfOk (cond zero (Ok (value.Bool false)) (cond one (Ok (value.Bool true)) (Err LiteralRange))) (IsOf types.Bool)
truth_of true one = (refl, refl)
truth_of false true = (refl, refl)
truth_of false false = tt

integer_of : (n : ℤ) (t : VarType) → IfOk (checked_integer n t) (IsOf t)
integer_of n types.Bool = truth_of (int_eq n (pos 0)) (int_eq n (pos 1))
integer_of n types.Int = fitting_of types.Int n
integer_of n types.Dint = fitting_of types.Dint n
integer_of n types.Time = tt

number_of : (t u : VarType) (n : ℤ) → IfOk (if_wanted t u (fitting t n)) (IsOf u)
number_of t u n = wanted t u (IsOf u) (fitting t n) (λ e. subst (λ (z : VarType). IfOk (fitting t n) (IsOf z)) e (fitting_of t n))

pub literal_of : (l : text_literal.Literal) (t : VarType) → IfOk (checked_literal l t) (IsOf t)
literal_of (literal.Integer n) t = integer_of n t
literal_of (literal.Int n) t = number_of types.Int t n
literal_of (literal.Dint n) t = number_of types.Dint t n
literal_of (literal.Bool b) t = wanted types.Bool t (IsOf t) _ (λ e. (e, refl))
literal_of (literal.Time d) t = number_of types.Time t d

-- ---- operators

logical_of : (t : VarType) → IfOk (if_wanted types.Bool t (Ok types.Bool)) (λ u. logical_type u ≡ Some t)
logical_of t = wanted types.Bool t (λ u. logical_type u ≡ Some t) _ (λ e. subst (λ (z : VarType). Some types.Bool ≡ Some z) e refl)

equality_of : (t u : VarType) → IfOk (if_wanted types.Bool t (Ok u)) (λ v. Some types.Bool ≡ Some t)
equality_of t u = wanted types.Bool t (λ v. Some types.Bool ≡ Some t) (Ok u) (λ e. subst (λ (z : VarType). Some types.Bool ≡ Some z) e refl)

ordered_of : (u : VarType) → IfOk (ordered u) (λ v. ordering_type v ≡ Some types.Bool)
ordered_of types.Bool = tt
ordered_of types.Int = refl
ordered_of types.Dint = refl
ordered_of types.Time = refl

order_of : (t u : VarType) → IfOk (if_wanted types.Bool t (ordered u)) (λ v. ordering_type v ≡ Some t)
order_of t u = wanted types.Bool t (λ v. ordering_type v ≡ Some t) (ordered u) (λ e. subst (λ (z : VarType). IfOk (ordered u) (λ v. ordering_type v ≡ Some z)) e (ordered_of u))

sum_of : (t : VarType) → IfOk (or_wrong (sum_type t)) (λ u. sum_type u ≡ Some t)
sum_of types.Bool = tt
sum_of types.Int = refl
sum_of types.Dint = refl
sum_of types.Time = refl

product_of : (t : VarType) → IfOk (or_wrong (integer_type t)) (λ u. integer_type u ≡ Some t)
product_of types.Bool = tt
product_of types.Int = refl
product_of types.Dint = refl
product_of types.Time = tt

operand_of : (o : Operator) (t : VarType) (left right : Option VarType) → IfOk (operand_type (family_of o) t left right) (λ u. result_type o u ≡ Some t)
operand_of op.Or t left right = logical_of t
operand_of op.Xor t left right = logical_of t
operand_of op.And t left right = logical_of t
operand_of op.Equal t left right = equality_of t (compared left right)
operand_of op.NotEqual t left right = equality_of t (compared left right)
operand_of op.Less t left right = order_of t (compared left right)
operand_of op.Greater t left right = order_of t (compared left right)
operand_of op.LessOrEqual t left right = order_of t (compared left right)
operand_of op.GreaterOrEqual t left right = order_of t (compared left right)
operand_of op.Add t left right = sum_of t
operand_of op.Subtract t left right = sum_of t
operand_of op.Multiply t left right = product_of t
operand_of op.Divide t left right = product_of t
operand_of op.Modulo t left right = product_of t

module _ (names : Names) (declared : Declared) (declares : Declares names declared) where
  -- ---- names

  -- a variable is declared with the type that it was found with
  abbrev Fits : Referent → Type 0
  Fits (referent.Variable v t) = declared v ≡ Some t
  Fits _ = Unit {0}

  variable_fits : (name : List ℕ) (o : Option (Variable × VarType)) → names.variable name ≡ o → IfSome (of_variable o) Fits
  variable_fits name (Some v) e = declares.variable name v.0 v.1 e
  variable_fits name None e = tt

  active_fits : (o : Option StepId) → IfSome (of_step referent.StepActive o) Fits
  active_fits (Some s) = tt
  active_fits None = tt

  time_fits : (o : Option StepId) → IfSome (of_step referent.StepTime o) Fits
  time_fits (Some s) = tt
  time_fits None = tt

  choose : (x t q : Bool) (o : Option StepId) → IfSome (cond x (of_step referent.StepActive o) (cond t (of_step referent.StepTime o) (cond q (Some referent.ActionQ) None))) Fits
  choose true t q o = active_fits o
  choose false true q o = time_fits o
  choose false false true o = tt
  choose false false false o = tt

  found_fits : (name : List ℕ) (part : Option (List ℕ)) → IfSome (found names name part) Fits
  found_fits name None = variable_fits name (names.variable name) refl
  found_fits name (Some part) = choose (same_word part (codes "X")) (same_word part (codes "T")) (same_word part (codes "Q") && names.is_own_action name) (names.step name)

  name_of : (o : Option Referent) (t : VarType) → IfSome o Fits → IfOk (checked_name o t) (λ x. HasType declared x t)
  name_of None t h = tt
  name_of (Some (referent.Variable v u)) t h = wanted u t (λ x. HasType declared x t) (Ok (Read v)) (λ e. subst (λ (z : VarType). declared v ≡ Some z) e h)
  name_of (Some (referent.StepActive s)) t h = wanted types.Bool t (λ x. HasType declared x t) _ (λ e. sym e)
  name_of (Some (referent.StepTime s)) t h = wanted types.Time t (λ x. HasType declared x t) _ (λ e. sym e)
  name_of (Some referent.ActionQ) t h = wanted types.Bool t (λ x. HasType declared x t) _ (λ e. sym e)

  -- ---- expressions

  pub checked_typed : (e : text.Tree) (t : VarType) → IfOk (checked names e t) (λ x. HasType declared x t)
  checked_typed (text.Constant l) t = on_checked (IsOf t) (λ x. HasType declared x t) (checked_literal l t) _ (literal_of l t) (λ x h. h)
  checked_typed (text.Named v) t = name_of (referent_of names v) t (found_fits v.name v.part)
  checked_typed (text.Not a) t =
      wanted types.Bool t (λ x. HasType declared x t) _
      (λ e. on_checked (λ x. HasType declared x types.Bool) (λ x. HasType declared x t) (checked names a types.Bool) _ (checked_typed a types.Bool) (λ x h. (sym e, h)))
  checked_typed (text.Minus a) t =
      on_checked (λ u. integer_type u ≡ Some t) (λ x. HasType declared x t) (or_wrong (integer_type t)) _ (product_of t)
      (λ u given. on_checked (λ x. HasType declared x u) (λ x. HasType declared x t) (checked names a u) _ (checked_typed a u) (λ x h. (given, h)))
  checked_typed (text.Binary o a b) t =
      on_checked (λ u. result_type (operator_of o) u ≡ Some t) (λ x. HasType declared x t) (operand_type (family_of (operator_of o)) t (natural names a) (natural names b)) _ (operand_of (operator_of o) t (natural names a) (natural names b))
      (λ u given. on_checked (λ x. HasType declared x u) (λ x. HasType declared x t) (checked names a u) _ (checked_typed a u)
      (λ x h. on_checked (λ y. HasType declared y u) (λ y. HasType declared y t) (checked names b u) _ (checked_typed b u) (λ y k. (given, h, k))))

  -- ---- statements

  abbrev IsTarget : Variable × VarType → Type 0
  IsTarget w = declared w.0 ≡ Some w.1

  known : (name : List ℕ) (o : Option (Variable × VarType)) → names.variable name ≡ o → IfOk (or_unknown o) IsTarget
  known name (Some v) e = declares.variable name v.0 v.1 e
  known name None e = tt

  target_of : (name : List ℕ) (part : Option (List ℕ)) → IfOk (without_part part (or_unknown (names.variable name))) IsTarget
  target_of name None = known name (names.variable name) refl
  target_of name (Some part) = tt

  mutual
    pub body_typed : (b : text.Block) → IfOk (checked_body names b) (IsTyped declared)
    body_typed text.Nothing = tt
    body_typed (text.Assign v e rest) =
        on_checked IsTarget (IsTyped declared) (checked_target names v) _ (target_of v.name v.part)
        (λ w is. on_checked (λ x. HasType declared x w.1) (IsTyped declared) (checked names e w.1) _ (checked_typed e w.1)
        (λ x h. on_checked (IsTyped declared) (IsTyped declared) (checked_body names rest) _ (body_typed rest) (λ b k. ((w.1, is, h), k))))
    body_typed (text.If bs rest) =
        on_checked (AreTyped declared) (IsTyped declared) (checked_branches names bs) _ (branches_typed bs)
        (λ x h. on_checked (IsTyped declared) (IsTyped declared) (checked_body names rest) _ (body_typed rest) (λ b k. (h, k)))
    body_typed (text.When e body rest) = tt
    body_typed (text.Otherwise body rest) = tt

    branches_typed : (b : text.Block) → IfOk (checked_branches names b) (AreTyped declared)
    branches_typed text.Nothing = tt
    branches_typed (text.Assign v e rest) = tt
    branches_typed (text.If bs rest) = tt
    branches_typed (text.When e body rest) =
        on_checked (λ x. HasType declared x types.Bool) (AreTyped declared) (checked names e types.Bool) _ (checked_typed e types.Bool)
        (λ x h. on_checked (IsTyped declared) (AreTyped declared) (checked_body names body) _ (body_typed body)
        (λ b k. on_checked (AreTyped declared) (AreTyped declared) (checked_branches names rest) _ (branches_typed rest) (λ bs l. (h, k, l))))
    branches_typed (text.Otherwise body rest) =
        on_checked (IsTyped declared) (AreTyped declared) (checked_body names body) _ (body_typed body)
        (λ b k. on_checked (AreTyped declared) (AreTyped declared) (checked_branches names rest) _ (branches_typed rest) (λ bs l. (k, l)))
