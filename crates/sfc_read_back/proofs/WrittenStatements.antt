-- What a listing spells of statements is checked as those statements again.
use Rattle.std.proofs.Common.{◌≡◌, ℕ, List, Option, Some, None, Ok, IfOk, refl, ap}
use Rattle.sfc_base.specs.declared.var_type.VarType.{VarType}
use Rattle.sfc_base.specs.declared.var_type.VarType.TheVariants as types
use Rattle.sfc_text.specs.Trees as text
use Rattle.sfc_base.specs.declared.references.Variable.{Variable}
use Rattle.sfc_expr.specs.Trees.{Body, Assign, If, Branches, When, Otherwise, Expression}
use Rattle.sfc_load.specs.sfc_check.Scopes.{Names, IgnoresCase}
use Rattle.sfc_load.specs.sfc_check.Checking.{or_unknown, without_part, checked, checked_target, checked_body, checked_branches}
use Rattle.sfc_load.proofs.of_sfc_check.CheckedTypes.{on_checked}
use Rattle.sfc_plant.specs.Spaces.{Space}
use Rattle.sfc_plant.specs.Names.{variable_name}
use Rattle.sfc_read_back.specs.WrittenTerms.{plain_name, body_tree, branches_tree}
use Rattle.sfc_read_back.proofs.WrittenExpressions.{Spells, IsBack, variable_again, expression_back}

module _ (names : Names) (ignores : IgnoresCase names) (space : Space) (own : List ℕ) (spells : Spells names space own) where
  -- what is spelled of a variable is the target again
  abbrev IsTarget : Variable × VarType → Type 0
  IsTarget v = checked_target names (plain_name (variable_name space v.0)) ≡ Ok v

  known : (name : List ℕ) (o : Option (Variable × VarType)) → names.variable name ≡ o → IfOk (or_unknown o) IsTarget
  known name (Some v) e = ap or_unknown (variable_again names ignores space own spells name v e)
  known name None e = tt

  target_back : (name : List ℕ) (part : Option (List ℕ)) → IfOk (without_part part (or_unknown (names.variable name))) IsTarget
  target_back name None = known name (names.variable name) refl
  target_back name (Some part) = tt

  abbrev IsBackAs : VarType → Expression → Type 0
  IsBackAs t x = IsBack names ignores space own spells t x

  abbrev pub IsBodyBack : Body → Type 0
  IsBodyBack b = checked_body names (body_tree space own b) ≡ Ok b

  abbrev AreBack : Branches → Type 0
  AreBack bs = checked_branches names (branches_tree space own bs) ≡ Ok bs

  assign_back : (v : Variable × VarType) (x : Expression) (b : Body) → IsTarget v → IsBackAs v.1 x → IsBodyBack b
      → IsBodyBack (Assign v.0 x b)
  assign_back v x b target h k = rw (target, h.checks, k) refl

  if_back : (bs : Branches) (b : Body) → AreBack bs → IsBodyBack b → IsBodyBack (If bs b)
  if_back bs b h k = rw (h, k) refl

  when_back : (x : Expression) (b : Body) (bs : Branches) → IsBackAs types.Bool x → IsBodyBack b → AreBack bs → AreBack (When x b bs)
  when_back x b bs h k l = rw (h.checks, k, l) refl

  otherwise_back : (b : Body) (bs : Branches) → IsBodyBack b → AreBack bs → AreBack (Otherwise b bs)
  otherwise_back b bs k l = rw (k, l) refl

  mutual
    pub body_back : (b : text.Block) → IfOk (checked_body names b) IsBodyBack
    body_back text.Nothing = refl
    body_back (text.Assign v e rest) =
        on_checked IsTarget IsBodyBack (checked_target names v) _ (target_back v.name v.part)
        (λ w is. on_checked (IsBackAs w.1) IsBodyBack (checked names e w.1) _ (expression_back names ignores space own spells e w.1)
        (λ x h. on_checked IsBodyBack IsBodyBack (checked_body names rest) _ (body_back rest) (λ b k. assign_back w x b is h k)))
    body_back (text.If bs rest) =
        on_checked AreBack IsBodyBack (checked_branches names bs) _ (branches_back bs)
        (λ x h. on_checked IsBodyBack IsBodyBack (checked_body names rest) _ (body_back rest) (λ b k. if_back x b h k))
    body_back (text.When e body rest) = refl
    body_back (text.Otherwise body rest) = refl

    branches_back : (b : text.Block) → IfOk (checked_branches names b) AreBack
    branches_back text.Nothing = refl
    branches_back (text.Assign v e rest) = refl
    branches_back (text.If bs rest) = refl
    branches_back (text.When e body rest) =
        on_checked (IsBackAs types.Bool) AreBack (checked names e types.Bool) _
        (expression_back names ignores space own spells e types.Bool)
        (λ x h. on_checked IsBodyBack AreBack (checked_body names body) _ (body_back body)
        (λ b k. on_checked AreBack AreBack (checked_branches names rest) _ (branches_back rest) (λ bs l. when_back x b bs h k l)))
    branches_back (text.Otherwise body rest) =
        on_checked IsBodyBack AreBack (checked_body names body) _ (body_back body)
        (λ b k. on_checked AreBack AreBack (checked_branches names rest) _ (branches_back rest) (λ bs l. otherwise_back b bs k l))
