-- Where the texts of expressions (3.3.1) and statements (3.3.2) spell their tokens.
use Rattle.std.specs.Prelude.{ℕ, List, IsTrue, ⊤}
use Rattle.sfc_base.specs.Names.{IsName}
use Rattle.sfc_expr.specs.Types.{lies_in_range}
use Rattle.sfc_expr.specs.Trees.{Expression, Literal, Read, StepActive, StepTime, ActionQ, Not, Minus, Binary}
use Rattle.sfc_expr.specs.Trees.{Body, Nothing, Assign, If, Branches, NoBranch, When, Otherwise}
use Rattle.sfc_plant.specs.Spaces.{Space}
use Rattle.sfc_plant.specs.Names.{variable_name, step_name}

-- whether each name in the text of the expression is one, and each value is in the range of its type
abbrev pub AreNames : Space → List ℕ → Expression → Type 0
AreNames space own (Literal v) = IsTrue (lies_in_range v)
AreNames space own (Read v) = IsName (variable_name space v)
AreNames space own (StepActive s) = IsName (step_name space s)
AreNames space own (StepTime s) = IsName (step_name space s)
AreNames space own ActionQ = IsName own
AreNames space own (Not e) = AreNames space own e
AreNames space own (Minus t e) = AreNames space own e
AreNames space own (Binary o t a b) = AreNames space own a × AreNames space own b

abbrev mutual
  -- the same of statements
  pub AreBodyNames : Space → List ℕ → Body → Type 0
  AreBodyNames space own Nothing = ⊤
  AreBodyNames space own (Assign v e rest) =
      IsName (variable_name space v) × AreNames space own e × AreBodyNames space own rest
  AreBodyNames space own (If branches rest) = AreBranchNames space own branches × AreBodyNames space own rest

  pub AreBranchNames : Space → List ℕ → Branches → Type 0
  AreBranchNames space own NoBranch = ⊤
  AreBranchNames space own (When e body rest) =
      AreNames space own e × AreBodyNames space own body × AreBranchNames space own rest
  AreBranchNames space own (Otherwise body rest) = AreBodyNames space own body × AreBranchNames space own rest
