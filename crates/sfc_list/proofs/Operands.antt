-- Operands in parentheses.
use Rattle.std.proofs.Common.{◌≡◌, ℕ, ◌<◌, ◌++◌, List, codes, arith}
use Rattle.std.proofs.lemmas.Grind.{common_steps}
use Rattle.sfc_expr.specs.Trees.{Expression}
use Rattle.sfc_list.specs.Expressions.{level_of, operand}

pub bracketed : (wanted : ℕ) (e : Expression) (text : List ℕ) → level_of e < wanted → operand wanted e text ≡ codes "(" ++ text ++ codes ")"
bracketed wanted e text lt = grind (arith, common_steps)
