use Rattle.std.proofs.Common.{ℕ, List, codes, sym, subst}
use Rattle.sfc_list.specs.Listing.{variable_text}
use Rattle.sfc_list.specs.Private.Sinking.{Puts}
use Rattle.sfc_list.proofs.Sunk.{puts_then}
use Rattle.sfc_list.proofs.Blocks.{some_block}
use Rattle.sfc_list.proofs.program.put_locals.Goals as goal

pub returns : goal.returns
returns g c =
    let n : _ = g.W.Write.contents in
    subst (λ (text : List ℕ). Puts n c.args.out.now c.put-2.new.self text)
    (sym (some_block 1 (codes "VAR") variable_text c.args.variables.now c.if-is_empty.ensures))
    (puts_then n _ _ _ _ _ (puts_then n _ _ _ _ _ c.put.ensures c.put_variables.ensures) c.put-2.ensures)
