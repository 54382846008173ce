-- What expressions and statements have to handle.
use Rattle.std.specs.Prelude.{ℕ, ◌+◌}
use Rattle.sfc_expr.specs.Trees.{Expression, Literal, Read, StepActive, StepTime, ActionQ, Not, Minus, Binary}
use Rattle.sfc_expr.specs.Trees.{Body, Nothing, Assign, If, Branches, NoBranch, When, Otherwise}

-- the nodes of an expression
abbrev pub nodes : Expression → ℕ
nodes (Literal x) = 1
nodes (Read v) = 1
nodes (StepActive s) = 1
nodes (StepTime s) = 1
nodes ActionQ = 1
nodes (Not e) = nodes e + 1
nodes (Minus t e) = nodes e + 1
nodes (Binary o t a b) = nodes a + nodes b + 1

-- the statements, and the nodes of their expressions
abbrev mutual
  pub body_nodes : Body → ℕ
  body_nodes Nothing = 0
  body_nodes (Assign v e rest) = nodes e + 1 + body_nodes rest
  body_nodes (If bs rest) = branch_nodes bs + 1 + body_nodes rest

  pub branch_nodes : Branches → ℕ
  branch_nodes NoBranch = 0
  branch_nodes (When e body rest) = nodes e + body_nodes body + branch_nodes rest
  branch_nodes (Otherwise body rest) = body_nodes body + branch_nodes rest
