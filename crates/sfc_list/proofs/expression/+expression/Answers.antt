use Rattle.std.proofs.Common.{arith}
use Rattle.std.proofs.lemmas.Grind.{common_steps}
use Rattle.sfc_list.proofs.Sunk.{puts_then}
use Rattle.sfc_list.proofs.Operands.{bracketed}
use Rattle.sfc_list.proofs.expression.+expression.Goals as goal

pub put_expression-returns-in-Binary : goal.put_expression-returns-in-Binary
put_expression-returns-in-Binary g t c =
    let n : _ = g.W.Write.contents in
    let spaced : _ = puts_then n _ _ _ _ _ c.put_operand-in-Binary.ensures c.put-in-Binary.ensures in
    let signed : _ = puts_then n _ _ _ _ _ spaced c.put-in-Binary-2.ensures in
    let all : _ = puts_then n _ _ _ _ _ (puts_then n _ _ _ _ _ signed c.put-in-Binary-3.ensures) c.put_operand-in-Binary-2.ensures in
    grind (arith, common_steps)

pub put_operand-returns-then-level_of-wanted : goal.put_operand-returns-then-level_of-wanted
put_operand-returns-then-level_of-wanted g t c =
    let n : _ = g.W.Write.contents in
    let all : _ = puts_then n _ _ _ _ _ (puts_then n _ _ _ _ _ c.put.ensures c.put_expression.ensures) c.put-then-level_of-wanted.ensures in
    grind (arith, bracketed)
