use Rattle.sfc_list.proofs.Sunk.{puts_then}
use Rattle.sfc_list.proofs.configuration.put_task_line.Goals as goal

pub returns : goal.returns
returns g c =
    let n : _ = g.W.Write.contents in
    (puts_then n _ _ _ _ _ (puts_then n _ _ _ _ _ c.put.ensures c.put_task.ensures) c.put-2.ensures)
