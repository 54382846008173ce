use Rattle.std.proofs.Common.{ℕ, List, sym, subst}
use Rattle.std.specs.Fmt.{decimal}
use Rattle.sfc_list.specs.Private.Sinking.{Puts}
use Rattle.sfc_list.proofs.Sunk.{puts_then}
use Rattle.sfc_list.proofs.Texts.{some_priority}
use Rattle.sfc_list.proofs.transition.put_priority.Goals as goal

pub returns-in-Some : goal.returns-in-Some
returns-in-Some g c =
    let n : _ = g.W.Write.contents in
    let number : Puts n c.put.new.self c.put_number.new.self (decimal c.in-Some.number) =
    subst (λ (k : ℕ). Puts n c.put.new.self c.put_number.new.self (decimal k)) c.from.ensures c.put_number.ensures in
    subst (λ (text : List ℕ). Puts n c.args.out.now c.put-in-Some.new.self text)
    (sym (some_priority c.args.priority c.in-Some.number c.in-Some.is))
    (puts_then n _ _ _ _ _ (puts_then n _ _ _ _ _ c.put.ensures number) c.put-in-Some.ensures)
