use Rattle.sfc_list.proofs.Sunk.{puts_then}
use Rattle.sfc_list.proofs.step.put_association_line.Goals as goal

pub returns : goal.returns
returns g c =
    let n : _ = g.W.Write.contents in
    (puts_then n _ _ _ _ _ (puts_then n _ _ _ _ _ c.put.ensures c.put_association.ensures) c.put-2.ensures)
