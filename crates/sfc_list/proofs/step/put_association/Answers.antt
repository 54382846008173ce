use Rattle.std.proofs.Common.{arith}
use Rattle.std.proofs.lemmas.Grind.{common_steps}
use Rattle.sfc_list.proofs.Sunk.{puts_then}
use Rattle.sfc_list.proofs.step.put_association.Goals as goal

pub returns : goal.returns
returns g c =
    let n : _ = g.W.Write.contents in
    let all : _ = (puts_then n _ _ _ _ _ (puts_then n _ _ _ _ _ (puts_then n _ _ _ _ _ (puts_then n _ _ _ _ _ c.put.ensures c.put-2.ensures) c.put_qualifier.ensures) c.put_indicators.ensures) c.put-3.ensures) in
    grind (arith, common_steps)
