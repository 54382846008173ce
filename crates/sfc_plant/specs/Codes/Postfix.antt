-- Typed trees as lists, operands before what is made of them: so that a value that holds a tree can be told from another.
use Rattle.std.specs.Prelude.{◌≡◌, List, [], ◌∷◌, refl}
use Rattle.sfc_base.specs.declared.var_type.VarType.{VarType}
use Rattle.sfc_base.specs.declared.value.Value.{Value}
use Rattle.sfc_expr.specs.declared.operator.Operator.{Operator}
use Rattle.sfc_base.specs.declared.references.Variable.{Variable}
use Rattle.sfc_base.specs.declared.references.StepId.{StepId}
use Rattle.sfc_expr.specs.Trees.{Expression, Literal, Read, StepActive, StepTime, ActionQ, Not, Minus, Binary}

pub data Node : Type 0 where
  ALiteral : Value → Node
  ARead : Variable → Node
  AnActive : StepId → Node
  ATime : StepId → Node
  AQ : Node
  ANot : Node
  AMinus : VarType → Node
  ABinary : Operator → VarType → Node

abbrev pub postfix_before : Expression → List Node → List Node
postfix_before (Literal x) rest = ALiteral x ∷ rest
postfix_before (Read v) rest = ARead v ∷ rest
postfix_before (StepActive s) rest = AnActive s ∷ rest
postfix_before (StepTime s) rest = ATime s ∷ rest
postfix_before ActionQ rest = AQ ∷ rest
postfix_before (Not e) rest = postfix_before e (ANot ∷ rest)
postfix_before (Minus t e) rest = postfix_before e (AMinus t ∷ rest)
postfix_before (Binary o t a b) rest = postfix_before a (postfix_before b (ABinary o t ∷ rest))

abbrev pub built : List Node → List Expression → List Expression
built [] done = done
built (ALiteral x ∷ rest) done = built rest (Literal x ∷ done)
built (ARead v ∷ rest) done = built rest (Read v ∷ done)
built (AnActive s ∷ rest) done = built rest (StepActive s ∷ done)
built (ATime s ∷ rest) done = built rest (StepTime s ∷ done)
built (AQ ∷ rest) done = built rest (ActionQ ∷ done)
built (ANot ∷ rest) (e ∷ done) = built rest (Not e ∷ done)
built (AMinus t ∷ rest) (e ∷ done) = built rest (Minus t e ∷ done)
built (ABinary o t ∷ rest) (b ∷ a ∷ done) = built rest (Binary o t a b ∷ done)
built (x ∷ rest) done = []

abbrev pub first_of : List Expression → Expression
first_of (e ∷ done) = e
first_of [] = ActionQ

abbrev pub postfix : Expression → List Node
postfix e = postfix_before e []

abbrev pub from_postfix : List Node → Expression
from_postfix nodes = first_of (built nodes [])

pub back : (e : Expression) (rest : List Node) (done : List Expression) → built (postfix_before e rest) done ≡ built rest (e ∷ done)
back (Literal x) rest done = refl
back (Read v) rest done = refl
back (StepActive s) rest done = refl
back (StepTime s) rest done = refl
back ActionQ rest done = refl
back (Not e) rest done = back e (ANot ∷ rest) done
back (Minus t e) rest done = back e (AMinus t ∷ rest) done
back (Binary o t a b) rest done = rw (back a (postfix_before b (ABinary o t ∷ rest)) done) (back b (ABinary o t ∷ rest) (a ∷ done))

pub from_postfix_back : (e : Expression) → from_postfix (postfix e) ≡ e
from_postfix_back e = rw (back e [] []) refl
