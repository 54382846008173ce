-- What names stand for where an expression stands (2.4.3, 2.6.2, 2.6.4.5).
use Rattle.std.specs.Prelude.{◌≡◌, ◌&&◌, ℕ, List, Bool, true, Option, Some, None, if◌then◌else◌, codes, ⊤}
use Rattle.sfc_base.specs.Case.{same_word}
use Rattle.sfc_base.specs.declared.var_type.VarType.{VarType}
use Rattle.sfc_base.specs.declared.var_type.VarType.TheVariants as types
use Rattle.sfc_text.specs.declared.expression.Variable as text
use Rattle.sfc_base.specs.declared.references.Variable.{Variable}
use Rattle.sfc_base.specs.declared.references.StepId.{StepId}
use Rattle.sfc_check.specs.declared.referent.Referent.{Referent}
use Rattle.sfc_check.specs.declared.referent.Referent.TheVariants as referent
use Rattle.sfc_expr.specs.Types.{Declared}
use Rattle.sfc_expr.specs.Trees.{Expression, Read, StepActive, StepTime, ActionQ}

-- Which variable a name is, with its type; which step it is; and whether it is the action in whose body it stands. A
-- name is taken as it was written.
pub record Names : Type 0 where
  pub variable : List ℕ → Option (Variable × VarType)
  pub step : List ℕ → Option StepId
  pub is_own_action : List ℕ → Bool

-- the case of letters is not significant (2.1.2)
pub record IgnoresCase (names : Names) : Type 0 where
  pub variable : (one other : List ℕ) → same_word one other ≡ true → names.variable one ≡ names.variable other
  pub step : (one other : List ℕ) → same_word one other ≡ true → names.step one ≡ names.step other
  pub is_own_action : (one other : List ℕ) → same_word one other ≡ true → names.is_own_action one ≡ names.is_own_action other

-- each variable that a name stands for is declared with its type
pub record Declares (names : Names) (declared : Declared) : Type 0 where
  pub variable : (name : List ℕ) (v : Variable) (t : VarType) → names.variable name ≡ Some (v, t) → declared v ≡ Some t

-- ---- names in an expression

abbrev pub of_variable : Option (Variable × VarType) → Option Referent
of_variable (Some v) = Some (referent.Variable v.0 v.1)
of_variable None = None

abbrev pub of_step : (StepId → Referent) → Option StepId → Option Referent
of_step part (Some s) = Some (part s)
of_step part None = None

-- `N.X` and `N.T` need a step N, `N.Q` the body of action N; nothing else has a dot
abbrev pub part_of : Names → List ℕ → List ℕ → Option Referent
part_of names name part =
    if same_word part (codes "X") then of_step referent.StepActive (names.step name) else
    if same_word part (codes "T") then of_step referent.StepTime (names.step name) else
    if same_word part (codes "Q") && names.is_own_action name then Some referent.ActionQ else None

-- what a name stands for, none where it is not found
abbrev pub found : Names → List ℕ → Option (List ℕ) → Option Referent
found names name None = of_variable (names.variable name)
found names name (Some part) = part_of names name part

abbrev pub referent_of : Names → text.Variable → Option Referent
referent_of names v = found names v.name v.part

abbrev pub type_of_referent : Referent → VarType
type_of_referent (referent.Variable v t) = t
type_of_referent (referent.StepActive s) = types.Bool
type_of_referent (referent.StepTime s) = types.Time
type_of_referent referent.ActionQ = types.Bool

-- the expression that reads it
abbrev pub reading_of : Referent → Expression
reading_of (referent.Variable v t) = Read v
reading_of (referent.StepActive s) = StepActive s
reading_of (referent.StepTime s) = StepTime s
reading_of referent.ActionQ = ActionQ

-- ---- the case of letters

-- no part, or one that is the same word
abbrev pub SamePart : Option (List ℕ) → Option (List ℕ) → Type 0
SamePart None None = ⊤
SamePart (Some p) (Some q) = same_word p q ≡ true
SamePart p q = ⊥

-- the same name but for the case of letters
pub record SameName (one other : text.Variable) : Type 0 where
  pub name : same_word one.name other.name ≡ true
  pub part : SamePart one.part other.part
