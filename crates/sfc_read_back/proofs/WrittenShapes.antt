-- What a listing spells of expressions and statements has their shape: the same operators and statements, nested in the same
-- way. So it has as many operators, and lies as deep.
use Rattle.std.proofs.Common.{◌≡◌, ℕ, ◌+◌, List, [], false, Option, Some, None, Ok, Err, IfOk, refl, ap}
use Rattle.std.specs.Prelude.{⊤}
use Rattle.sfc_base.specs.declared.var_type.VarType.{VarType}
use Rattle.sfc_base.specs.declared.var_type.VarType.TheVariants as types
use Rattle.sfc_text.specs.declared.tree.Literal.TheVariants as literal
use Rattle.sfc_text.specs.declared.expression.Operator as text_operator
use Rattle.sfc_text.specs.declared.expression.Operator.TheVariants as written
use Rattle.sfc_text.specs.declared.expression.Variable as text_variable
use Rattle.sfc_text.specs.Trees as text
use Rattle.sfc_load.specs.sfc_check.declared.family.Family.{Family}
use Rattle.sfc_load.specs.sfc_check.declared.referent.Referent.{Referent}
use Rattle.sfc_load.specs.sfc_check.declared.referent.Referent.TheVariants as referent
use Rattle.sfc_expr.specs.Types.{integer_type}
use Rattle.sfc_expr.specs.Trees.{Expression, Body, Branches}
use Rattle.sfc_load.specs.sfc_check.Scopes.{Names, referent_of, type_of_referent, reading_of}
use Rattle.sfc_load.specs.sfc_check.TypeFaults.{Checked, ◌>>=◌}
use Rattle.sfc_load.specs.sfc_check.Families.{operator_of, family_of}
use Rattle.sfc_load.specs.sfc_check.Naturals.{natural}
use Rattle.sfc_load.specs.sfc_check.Checking.{or_wrong, checked_literal, checked_name, operand_type, checked, checked_target, checked_body, checked_branches}
use Rattle.sfc_load.proofs.of_sfc_check.CheckedTypes.{on_checked, wanted}
use Rattle.sfc_plant.specs.Spaces.{Space}
use Rattle.sfc_read_back.specs.WrittenTerms.{operator_tree, expression_tree, body_tree, branches_tree}

-- ---- expressions

-- a tree whose constants and names are left out
abbrev pub shape : text.Tree → text.Tree
shape (text.Constant l) = text.Constant (literal.Bool false)
shape (text.Named v) = text.Constant (literal.Bool false)
shape (text.Not a) = text.Not (shape a)
shape (text.Minus a) = text.Minus (shape a)
shape (text.Binary o a b) = text.Binary o (shape a) (shape b)

pub operators_by_shape : (e : text.Tree) → text.operators (shape e) ≡ text.operators e
operators_by_shape (text.Constant l) = refl
operators_by_shape (text.Named v) = refl
operators_by_shape (text.Not a) = ap (λ n. 1 + n) (operators_by_shape a)
operators_by_shape (text.Minus a) = ap (λ n. 1 + n) (operators_by_shape a)
operators_by_shape (text.Binary o a b) = λ i. 1 + (operators_by_shape a i + operators_by_shape b i)

operator_kept : (o : text_operator.Operator) → operator_tree (operator_of o) ≡ o
operator_kept written.Or = refl
operator_kept written.Xor = refl
operator_kept written.And = refl
operator_kept written.Equal = refl
operator_kept written.NotEqual = refl
operator_kept written.Less = refl
operator_kept written.Greater = refl
operator_kept written.LessOrEqual = refl
operator_kept written.GreaterOrEqual = refl
operator_kept written.Add = refl
operator_kept written.Subtract = refl
operator_kept written.Multiply = refl
operator_kept written.Divide = refl
operator_kept written.Modulo = refl

-- whatever holds of all, and what follows from it
anything : {A : Type 0} (r : Checked A) → IfOk r (λ x. ⊤)
anything (Ok x) = tt
anything (Err fault) = tt

pub then_any : {A B : Type 0} (Q : B → Type 0) (r : Checked A) (f : A → Checked B) → ((x : A) → IfOk (f x) Q) → IfOk (r >>= f) Q
then_any Q r f k = on_checked (λ x. ⊤) Q r f (anything r) (λ x h. k x)

module _ (names : Names) (space : Space) (own : List ℕ) where
  -- what is spelled of the expression has this shape
  abbrev pub HasShape : text.Tree → Expression → Type 0
  HasShape e x = shape (expression_tree space own x) ≡ shape e

  name_shape : (v : text_variable.Variable) (r : Referent) → HasShape (text.Named v) (reading_of r)
  name_shape v (referent.Variable w t) = refl
  name_shape v (referent.StepActive s) = refl
  name_shape v (referent.StepTime s) = refl
  name_shape v referent.ActionQ = refl

  named_shape : (v : text_variable.Variable) (o : Option Referent) (t : VarType) → IfOk (checked_name o t) (HasShape (text.Named v))
  named_shape v None t = tt
  named_shape v (Some r) t = wanted (type_of_referent r) t (HasShape (text.Named v)) (Ok (reading_of r)) (λ e. name_shape v r)

  pub shape_kept : (e : text.Tree) (t : VarType) → IfOk (checked names e t) (HasShape e)
  shape_kept (text.Constant l) t = then_any (HasShape (text.Constant l)) (checked_literal l t) _ (λ x. refl)
  shape_kept (text.Named v) t = named_shape v (referent_of names v) t
  shape_kept (text.Not a) t =
      wanted types.Bool t (HasShape (text.Not a)) _
      (λ e. on_checked (HasShape a) (HasShape (text.Not a)) (checked names a types.Bool) _ (shape_kept a types.Bool) (λ x h. ap text.Not h))
  shape_kept (text.Minus a) t =
      then_any (HasShape (text.Minus a)) (or_wrong (integer_type t)) _
      (λ u. on_checked (HasShape a) (HasShape (text.Minus a)) (checked names a u) _ (shape_kept a u) (λ x h. ap text.Minus h))
  shape_kept (text.Binary o a b) t =
      let f : Family = family_of (operator_of o) in
      then_any (HasShape (text.Binary o a b)) (operand_type f t (natural names a) (natural names b)) _
      (λ u. on_checked (HasShape a) (HasShape (text.Binary o a b)) (checked names a u) _ (shape_kept a u)
      (λ x h. on_checked (HasShape b) (HasShape (text.Binary o a b)) (checked names b u) _ (shape_kept b u)
      (λ y k. λ i. text.Binary (operator_kept o i) (h i) (k i))))

-- ---- statements

-- statements whose constants and names are left out
abbrev pub nameless : text_variable.Variable
nameless = record { name = []; part = None }

abbrev pub block_shape : text.Block → text.Block
block_shape text.Nothing = text.Nothing
block_shape (text.Assign v e rest) = text.Assign nameless (shape e) (block_shape rest)
block_shape (text.If bs rest) = text.If (block_shape bs) (block_shape rest)
block_shape (text.When e body rest) = text.When (shape e) (block_shape body) (block_shape rest)
block_shape (text.Otherwise body rest) = text.Otherwise (block_shape body) (block_shape rest)

-- statements with branches in IFs alone, and branches with statements in them alone, as texts have them
abbrev mutual
  pub AreStatements : text.Block → Type 0
  AreStatements text.Nothing = ⊤
  AreStatements (text.Assign v e rest) = AreStatements rest
  AreStatements (text.If bs rest) = AreBranches bs × AreStatements rest
  AreStatements (text.When e body rest) = ⊥
  AreStatements (text.Otherwise body rest) = ⊥

  pub AreBranches : text.Block → Type 0
  AreBranches text.Nothing = ⊤
  AreBranches (text.Assign v e rest) = ⊥
  AreBranches (text.If bs rest) = ⊥
  AreBranches (text.When e body rest) = AreStatements body × AreBranches rest
  AreBranches (text.Otherwise body rest) = AreStatements body × AreBranches rest

module _ (names : Names) (space : Space) (own : List ℕ) where
  abbrev pub HasBodyShape : text.Block → Body → Type 0
  HasBodyShape b x = block_shape (body_tree space own x) ≡ block_shape b

  abbrev pub HaveShape : text.Block → Branches → Type 0
  HaveShape b x = block_shape (branches_tree space own x) ≡ block_shape b

  abbrev Shaped : text.Tree → Expression → Type 0
  Shaped e x = HasShape names space own e x

  mutual
    pub body_shape_kept : (b : text.Block) → AreStatements b → IfOk (checked_body names b) (HasBodyShape b)
    body_shape_kept text.Nothing is = refl
    body_shape_kept (text.Assign v e rest) is =
        let whole : text.Block = text.Assign v e rest in
        then_any (HasBodyShape whole) (checked_target names v) _
        (λ w. on_checked (Shaped e) (HasBodyShape whole) (checked names e w.1) _ (shape_kept names space own e w.1)
        (λ x h. on_checked (HasBodyShape rest) (HasBodyShape whole) (checked_body names rest) _ (body_shape_kept rest is)
        (λ b k. λ i. text.Assign nameless (h i) (k i))))
    body_shape_kept (text.If bs rest) is =
        let whole : text.Block = text.If bs rest in
        on_checked (HaveShape bs) (HasBodyShape whole) (checked_branches names bs) _ (branches_shape_kept bs is.0)
        (λ x h. on_checked (HasBodyShape rest) (HasBodyShape whole) (checked_body names rest) _ (body_shape_kept rest is.1)
        (λ b k. λ i. text.If (h i) (k i)))
    body_shape_kept (text.When e body rest) is = absurd is
    body_shape_kept (text.Otherwise body rest) is = absurd is

    pub branches_shape_kept : (b : text.Block) → AreBranches b → IfOk (checked_branches names b) (HaveShape b)
    branches_shape_kept text.Nothing is = refl
    branches_shape_kept (text.Assign v e rest) is = absurd is
    branches_shape_kept (text.If bs rest) is = absurd is
    branches_shape_kept (text.When e body rest) is =
        let whole : text.Block = text.When e body rest in
        on_checked (Shaped e) (HaveShape whole) (checked names e types.Bool) _ (shape_kept names space own e types.Bool)
        (λ x h. on_checked (HasBodyShape body) (HaveShape whole) (checked_body names body) _ (body_shape_kept body is.0)
        (λ b k. on_checked (HaveShape rest) (HaveShape whole) (checked_branches names rest) _ (branches_shape_kept rest is.1)
        (λ bs l. λ i. text.When (h i) (k i) (l i))))
    branches_shape_kept (text.Otherwise body rest) is =
        let whole : text.Block = text.Otherwise body rest in
        on_checked (HasBodyShape body) (HaveShape whole) (checked_body names body) _ (body_shape_kept body is.0)
        (λ b k. on_checked (HaveShape rest) (HaveShape whole) (checked_branches names rest) _ (branches_shape_kept rest is.1)
        (λ bs l. λ i. text.Otherwise (k i) (l i)))
