use Rattle.std.proofs.Common.{ℕ, List, subst}
use Rattle.sfc_list.specs.Private.Sinking.{Puts}
use Rattle.sfc_list.proofs.Sunk.{puts_then}
use Rattle.sfc_list.proofs.program.put_name_line.Goals as goal

pub returns : goal.returns
returns g c =
    let n : _ = g.W.Write.contents in
    let name : Puts n c.put.new.self c.put-2.new.self c.args.program.now.name =
    subst (λ (text : List ℕ). Puts n c.put.new.self c.put-2.new.self text) c.spelling.ensures.value c.put-2.ensures in
    (puts_then n _ _ _ _ _ (puts_then n _ _ _ _ _ c.put.ensures name) c.put-3.ensures)
