-- Typed statements as lists, parts before what is made of them.
use Rattle.std.specs.Prelude.{◌≡◌, List, [], ◌∷◌, refl}
use Rattle.sfc_base.specs.declared.references.Variable.{Variable}
use Rattle.sfc_expr.specs.Trees.{Body, Nothing, Assign, If, Branches, NoBranch, When, Otherwise}
use Rattle.sfc_plant.specs.Codes.Postfix.{Node, postfix, from_postfix, from_postfix_back}

pub data Mark : Type 0 where
  ANothing : Mark
  AnAssign : Variable → List Node → Mark
  AnIf : Mark
  ANoBranch : Mark
  AWhen : List Node → Mark
  AnOtherwise : Mark

abbrev mutual
  pub body_before : Body → List Mark → List Mark
  body_before Nothing rest = ANothing ∷ rest
  body_before (Assign v e body) rest = body_before body (AnAssign v (postfix e) ∷ rest)
  body_before (If branches body) rest = branches_before branches (body_before body (AnIf ∷ rest))

  pub branches_before : Branches → List Mark → List Mark
  branches_before NoBranch rest = ANoBranch ∷ rest
  branches_before (When e body branches) rest = body_before body (branches_before branches (AWhen (postfix e) ∷ rest))
  branches_before (Otherwise body branches) rest = body_before body (branches_before branches (AnOtherwise ∷ rest))

-- what is done, the latest first: bodies and branches
abbrev pub built : List Mark → List Body → List Branches → List Body
built [] bodies branches = bodies
built (ANothing ∷ rest) bodies branches = built rest (Nothing ∷ bodies) branches
built (AnAssign v e ∷ rest) (body ∷ bodies) branches = built rest (Assign v (from_postfix e) body ∷ bodies) branches
built (AnIf ∷ rest) (body ∷ bodies) (bs ∷ branches) = built rest (If bs body ∷ bodies) branches
built (ANoBranch ∷ rest) bodies branches = built rest bodies (NoBranch ∷ branches)
built (AWhen e ∷ rest) (body ∷ bodies) (bs ∷ branches) = built rest bodies (When (from_postfix e) body bs ∷ branches)
built (AnOtherwise ∷ rest) (body ∷ bodies) (bs ∷ branches) = built rest bodies (Otherwise body bs ∷ branches)
built (mark ∷ rest) bodies branches = []

abbrev pub first_of : List Body → Body
first_of (body ∷ bodies) = body
first_of [] = Nothing

abbrev pub marks : Body → List Mark
marks body = body_before body []

abbrev pub from_marks : List Mark → Body
from_marks ms = first_of (built ms [] [])

mutual
  pub body_back : (b : Body) (rest : List Mark) (bodies : List Body) (branches : List Branches)
      → built (body_before b rest) bodies branches ≡ built rest (b ∷ bodies) branches
  body_back Nothing rest bodies branches = refl
  body_back (Assign v e b) rest bodies branches =
      rw (body_back b (AnAssign v (postfix e) ∷ rest) bodies branches, from_postfix_back e) refl
  body_back (If bs b) rest bodies branches =
      rw (branches_back bs (body_before b (AnIf ∷ rest)) bodies branches, body_back b (AnIf ∷ rest) bodies (bs ∷ branches)) refl

  pub branches_back : (bs : Branches) (rest : List Mark) (bodies : List Body) (branches : List Branches)
      → built (branches_before bs rest) bodies branches ≡ built rest bodies (bs ∷ branches)
  branches_back NoBranch rest bodies branches = refl
  branches_back (When e b bs) rest bodies branches =
      rw (
        body_back b (branches_before bs (AWhen (postfix e) ∷ rest)) bodies branches,
        branches_back bs (AWhen (postfix e) ∷ rest) (b ∷ bodies) branches,
        from_postfix_back e,
      ) refl
  branches_back (Otherwise b bs) rest bodies branches =
      rw (
        body_back b (branches_before bs (AnOtherwise ∷ rest)) bodies branches,
        branches_back bs (AnOtherwise ∷ rest) (b ∷ bodies) branches,
      ) refl

pub from_marks_back : (b : Body) → from_marks (marks b) ≡ b
from_marks_back b = rw (body_back b [] [] []) refl
