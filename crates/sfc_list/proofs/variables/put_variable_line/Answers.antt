use Rattle.sfc_list.proofs.Sunk.{puts_then}
use Rattle.sfc_list.proofs.variables.put_variable_line.Goals as goal

pub returns : goal.returns
returns g c =
    let n : _ = g.W.Write.contents in
    (puts_then n _ _ _ _ _ (puts_then n _ _ _ _ _ c.put_indent.ensures c.put_variable.ensures) c.put.ensures)
