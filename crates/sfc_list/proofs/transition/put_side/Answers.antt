use Rattle.std.proofs.Common.{ℕ, List, sym, subst}
use Rattle.sfc_list.specs.Private.Sinking.{Puts}
use Rattle.sfc_list.proofs.Sunk.{puts_then}
use Rattle.sfc_list.proofs.Texts.{several_steps}
use Rattle.sfc_list.proofs.transition.put_side.Goals as goal

pub returns-else-steps-eq1 : goal.returns-else-steps-eq1
returns-else-steps-eq1 g c =
    let n : _ = g.W.Write.contents in
    subst (λ (text : List ℕ). Puts n c.args.out.now c.put-else-steps-eq1.new.self text)
    (sym (several_steps c.args.names.now c.args.steps.now c.if-steps-eq1.false))
    (puts_then n _ _ _ _ _ (puts_then n _ _ _ _ _ c.put.ensures c.put_steps-else-steps-eq1.ensures) c.put-else-steps-eq1.ensures)
