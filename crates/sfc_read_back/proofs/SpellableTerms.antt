-- Each name in an expression or in statements that were loaded is one, and each value is in the range of its type.
use Rattle.std.proofs.Common.{◌≡◌, ◌<◌, ◌&&◌, ℕ, List, [], length, All, Bool, true, false, cond, Option, Some, None, IfSome, Ok, IfOk, unwrap_or, refl, subst}
use Rattle.std.specs.Option.{option_map}
use Rattle.std.specs.Prelude.{codes}
use Rattle.std.proofs.lemmas.List.{length-map}
use Rattle.sfc_base.specs.Case.{same_word}
use Rattle.sfc_base.specs.Names.{IsName}
use Rattle.sfc_base.specs.declared.var_type.VarType.{VarType}
use Rattle.sfc_base.specs.declared.var_type.VarType.TheVariants as types
use Rattle.sfc_text.specs.Declares.{OfOptional}
use Rattle.sfc_text.specs.Trees as text
use Rattle.sfc_load.specs.sfc_check.declared.referent.Referent.{Referent}
use Rattle.sfc_load.specs.sfc_check.declared.referent.Referent.TheVariants as referent
use Rattle.sfc_base.specs.declared.references.Variable.{Variable}
use Rattle.sfc_base.specs.declared.references.Variable.TheVariants.{Global, Local}
use Rattle.sfc_base.specs.declared.references.StepId.{StepId}
use Rattle.sfc_expr.specs.Types.{IsOf, integer_type}
use Rattle.sfc_expr.specs.Trees.{Body, Branches}
use Rattle.sfc_base.specs.NameLists.{place_of}
use Rattle.sfc_load.specs.sfc_check.Scopes.{Names, found, of_variable, of_step, referent_of, type_of_referent, reading_of}
use Rattle.sfc_load.specs.sfc_check.Families.{operator_of, family_of}
use Rattle.sfc_load.specs.sfc_check.Naturals.{natural}
use Rattle.sfc_load.specs.sfc_check.Checking.{or_wrong, or_unknown, without_part, checked_literal, checked_name, operand_type, checked, checked_target, checked_body, checked_branches}
use Rattle.sfc_load.proofs.of_sfc_check.CheckedTypes.{on_checked, wanted, literal_of}
use Rattle.sfc_plant.specs.VariableNames.{names_of}
use Rattle.sfc_plant.specs.Chart.{IsVariable}
use Rattle.sfc_plant.specs.Spaces.{Space}
use Rattle.sfc_load.specs.sfc_program.Names.{is_name_of, names_in}
use Rattle.sfc_load.proofs.of_sfc_program.Soundness.{counts, named_sound}
use Rattle.sfc_base.proofs.NamePlaces.{place_below}
use Rattle.sfc_plant.specs.Names.{name_at, variable_name, step_name}
use Rattle.sfc_read_back.specs.SpelledTexts.{AreNames, AreBodyNames, AreBranchNames}
use Rattle.sfc_read_back.proofs.WrittenShapes.{then_any}

-- ---- expressions

-- what names stand for has names of its own
pub record HaveNames (names : Names) (space : Space) (own : List ℕ) : Type 0 where
  pub variable : (name : List ℕ) (v : Variable × VarType) → names.variable name ≡ Some v → IsName (variable_name space v.0)
  pub step : (name : List ℕ) (s : StepId) → names.step name ≡ Some s → IsName (step_name space s)
  pub action : (name : List ℕ) → names.is_own_action name ≡ true → IsName own

module _ (names : Names) (space : Space) (own : List ℕ) (have : HaveNames names space own) where
  abbrev HasName : Referent → Type 0
  HasName (referent.Variable v t) = IsName (variable_name space v)
  HasName (referent.StepActive s) = IsName (step_name space s)
  HasName (referent.StepTime s) = IsName (step_name space s)
  HasName referent.ActionQ = IsName own

  plain_named : (name : List ℕ) (o : Option (Variable × VarType)) → names.variable name ≡ o → IfSome (of_variable o) HasName
  plain_named name (Some v) e = have.variable name v e
  plain_named name None e = tt

  active_named : (name : List ℕ) (o : Option StepId) → names.step name ≡ o → IfSome (of_step referent.StepActive o) HasName
  active_named name (Some s) e = have.step name s e
  active_named name None e = tt

  time_named : (name : List ℕ) (o : Option StepId) → names.step name ≡ o → IfSome (of_step referent.StepTime o) HasName
  time_named name (Some s) e = have.step name s e
  time_named name None e = tt

  both_true : (a b : Bool) → a && b ≡ true → b ≡ true
  both_true true b e = e
  both_true false b e = cc

  own_named : (name : List ℕ) (a q : Bool) → a && names.is_own_action name ≡ q → IfSome (cond q (Some referent.ActionQ) None) HasName
  own_named name a true e = have.action name (both_true a (names.is_own_action name) e)
  own_named name a false e = tt

  part_named : (name : List ℕ) (x t a : Bool)
      → IfSome (cond x (of_step referent.StepActive (names.step name)) (cond t (of_step referent.StepTime (names.step name))
      (cond (a && names.is_own_action name) (Some referent.ActionQ) None))) HasName
  part_named name true t a = active_named name (names.step name) refl
  part_named name false true a = time_named name (names.step name) refl
  part_named name false false a = own_named name a (a && names.is_own_action name) refl

  found_named : (name : List ℕ) (part : Option (List ℕ)) → IfSome (found names name part) HasName
  found_named name None = plain_named name (names.variable name) refl
  found_named name (Some part) = part_named name (same_word part (codes "X")) (same_word part (codes "T")) (same_word part (codes "Q"))

  read_named : (r : Referent) → HasName r → AreNames space own (reading_of r)
  read_named (referent.Variable v t) h = h
  read_named (referent.StepActive s) h = h
  read_named (referent.StepTime s) h = h
  read_named referent.ActionQ h = h

  name_named : (o : Option Referent) (t : VarType) → IfSome o HasName → IfOk (checked_name o t) (AreNames space own)
  name_named None t h = tt
  name_named (Some r) t h = wanted (type_of_referent r) t (AreNames space own) (Ok (reading_of r)) (λ e. read_named r h)

  pub expression_named : (e : text.Tree) (t : VarType) → IfOk (checked names e t) (AreNames space own)
  expression_named (text.Constant l) t = on_checked (IsOf t) (AreNames space own) (checked_literal l t) _ (literal_of l t) (λ x h. h.1)
  expression_named (text.Named v) t = name_named (referent_of names v) t (found_named v.name v.part)
  expression_named (text.Not a) t =
      wanted types.Bool t (AreNames space own) _
      (λ e. on_checked (AreNames space own) (AreNames space own) (checked names a types.Bool) _ (expression_named a types.Bool) (λ x h. h))
  expression_named (text.Minus a) t =
      then_any (AreNames space own) (or_wrong (integer_type t)) _
      (λ u. on_checked (AreNames space own) (AreNames space own) (checked names a u) _ (expression_named a u) (λ x h. h))
  expression_named (text.Binary o a b) t =
      then_any (AreNames space own) (operand_type (family_of (operator_of o)) t (natural names a) (natural names b)) _
      (λ u. on_checked (AreNames space own) (AreNames space own) (checked names a u) _ (expression_named a u)
      (λ x h. on_checked (AreNames space own) (AreNames space own) (checked names b u) _ (expression_named b u) (λ y k. (h, k))))

  -- ---- statements

  abbrev HasTarget : Variable × VarType → Type 0
  HasTarget v = IsName (variable_name space v.0)

  known : (name : List ℕ) (o : Option (Variable × VarType)) → names.variable name ≡ o → IfOk (or_unknown o) HasTarget
  known name (Some v) e = have.variable name v e
  known name None e = tt

  target_named : (name : List ℕ) (part : Option (List ℕ)) → IfOk (without_part part (or_unknown (names.variable name))) HasTarget
  target_named name None = known name (names.variable name) refl
  target_named name (Some part) = tt

  abbrev BodyIs : Body → Type 0
  BodyIs b = AreBodyNames space own b

  abbrev BranchesAre : Branches → Type 0
  BranchesAre bs = AreBranchNames space own bs

  mutual
    pub body_named : (b : text.Block) → IfOk (checked_body names b) BodyIs
    body_named text.Nothing = tt
    body_named (text.Assign v e rest) =
        on_checked HasTarget BodyIs (checked_target names v) _ (target_named v.name v.part)
        (λ w is. on_checked (AreNames space own) BodyIs (checked names e w.1) _ (expression_named e w.1)
        (λ x h. on_checked BodyIs BodyIs (checked_body names rest) _ (body_named rest) (λ b k. (is, h, k))))
    body_named (text.If bs rest) =
        on_checked BranchesAre BodyIs (checked_branches names bs) _ (branches_named bs)
        (λ x h. on_checked BodyIs BodyIs (checked_body names rest) _ (body_named rest) (λ b k. (h, k)))
    body_named (text.When e body rest) = tt
    body_named (text.Otherwise body rest) = tt

    branches_named : (b : text.Block) → IfOk (checked_branches names b) BranchesAre
    branches_named text.Nothing = tt
    branches_named (text.Assign v e rest) = tt
    branches_named (text.If bs rest) = tt
    branches_named (text.When e body rest) =
        on_checked (AreNames space own) BranchesAre (checked names e types.Bool) _ (expression_named e types.Bool)
        (λ x h. on_checked BodyIs BranchesAre (checked_body names body) _ (body_named body)
        (λ b k. on_checked BranchesAre BranchesAre (checked_branches names rest) _ (branches_named rest) (λ bs l. (h, k, l))))
    branches_named (text.Otherwise body rest) =
        on_checked BodyIs BranchesAre (checked_body names body) _ (body_named body)
        (λ b k. on_checked BranchesAre BranchesAre (checked_branches names rest) _ (branches_named rest) (λ bs l. (k, l)))

-- ---- the names of a program type

-- each declared name is one
pub record AreDeclared (space : Space) : Type 0 where
  pub globals : All IsName (names_of space.globals)
  pub locals : All IsName (names_of space.locals)
  pub steps : All IsName space.steps
  pub actions : All IsName space.actions

pub name_there : (names : List (List ℕ)) (i : ℕ) → All IsName names → i < length names → IsName (name_at names i)
name_there names i are lt = are i [] lt

pub variable_named : (space : Space) (v : Variable) → AreDeclared space → IsVariable (counts space) v → IsName (variable_name space v)
variable_named space (Global id) are lt = name_there (names_of space.globals) id.0 are.globals (rw (length-map space.globals (λ v. v.name)) lt)
variable_named space (Local id) are lt = name_there (names_of space.locals) id.0 are.locals (rw (length-map space.locals (λ v. v.name)) lt)

step_named : (steps : List (List ℕ)) (name : List ℕ) (place : Option ℕ) (s : StepId) → All IsName steps → place_of name steps ≡ place
    → option_map (λ place. let id : StepId = record { 0 = place } in id) place ≡ Some s → IsName (name_at steps s.0)
step_named steps name (Some i) s are is e =
    let same : i ≡ s.0 = cc in
    subst (λ k. IsName (name_at steps k)) same (name_there steps i are (place_below name steps i is))
step_named steps name None s are is e = cc

own_action_named : (own : Option (List ℕ)) (name : List ℕ) → OfOptional IsName own → is_name_of own name ≡ true → IsName (unwrap_or own [])
own_action_named (Some own) name is e = is
own_action_named None name is e = cc

-- what names stand for in the body of an action, or in a condition
pub have_names : (space : Space) (own : Option (List ℕ)) → AreDeclared space → OfOptional IsName own → HaveNames (names_in space own) space (unwrap_or own [])
have_names space own are is = record {
  variable = λ name v e. variable_named space v.0 are (named_sound space name v e);
  step = λ name s e. step_named space.steps name (place_of name space.steps) s are.steps refl e;
  action = λ name e. own_action_named own name is e;
}
