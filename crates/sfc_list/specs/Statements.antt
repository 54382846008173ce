-- The text of statements (3.3.2), each on lines of its own.
use Rattle.std.specs.Prelude.{ℕ, ◌+◌, List, [], ◌++◌, codes}
use Rattle.sfc_base.specs.declared.references.Variable.{Variable}
use Rattle.sfc_expr.specs.Trees.{Expression, Body, Nothing, Assign, If, Branches, NoBranch, When, Otherwise}
use Rattle.sfc_plant.specs.Spaces.{Space}
use Rattle.sfc_list.specs.Layout.{line}
use Rattle.sfc_plant.specs.Names.{variable_name}
use Rattle.sfc_list.specs.Expressions.{expression_text}

abbrev pub assignment_text : Space → List ℕ → Variable → Expression → List ℕ
assignment_text space own v e = variable_name space v ++ codes " := " ++ expression_text space own e ++ codes ";"

-- a condition behind the word of its branch
abbrev pub branch_head : Space → List ℕ → List ℕ → Expression → List ℕ
branch_head space own word e = word ++ expression_text space own e ++ codes " THEN"

abbrev mutual
  -- statements in the body of the action of this name
  pub body_text : Space → List ℕ → ℕ → Body → List ℕ
  body_text space own level Nothing = []
  body_text space own level (Assign v e rest) =
      line level (assignment_text space own v e) ++ body_text space own level rest
  body_text space own level (If branches rest) =
      branches_text space own level (codes "IF ") branches ++ line level (codes "END_IF;")
      ++ body_text space own level rest

  -- the branches of an IF, where the first condition stands behind this word
  pub branches_text : Space → List ℕ → ℕ → List ℕ → Branches → List ℕ
  branches_text space own level word NoBranch = []
  branches_text space own level word (When e body rest) =
      line level (branch_head space own word e) ++ body_text space own (level + 1) body
      ++ branches_text space own level (codes "ELSIF ") rest
  branches_text space own level word (Otherwise body rest) =
      line level (codes "ELSE") ++ body_text space own (level + 1) body
      ++ branches_text space own level (codes "ELSIF ") rest
