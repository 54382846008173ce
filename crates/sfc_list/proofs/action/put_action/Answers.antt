use Rattle.std.proofs.Common.{ℕ, List, subst}
use Rattle.sfc_expr.specs.Trees.{Body}
use Rattle.sfc_list.specs.Statements.{body_text}
use Rattle.sfc_list.specs.Private.Sinking.{Puts}
use Rattle.sfc_list.proofs.Sunk.{puts_then}
use Rattle.sfc_list.proofs.action.put_action.Goals as goal

pub returns : goal.returns
returns g c =
    let n : _ = g.W.Write.contents in
    let body : Puts n c.put_action_line.new.out c.put_statements.new.out
    (body_text c.args.names.now c.args.action.now.name 2 c.args.action.now.body) =
    subst (λ (own : List ℕ). Puts n c.put_action_line.new.out c.put_statements.new.out
    (body_text c.args.names.now own 2 c.args.action.now.body)) c.spelling.ensures.value
    (subst (λ (body : Body). Puts n c.put_action_line.new.out c.put_statements.new.out
    (body_text c.args.names.now c.spelling.result.now 2 body)) c.as_slice.ensures c.put_statements.ensures) in
    (puts_then n _ _ _ _ _ (puts_then n _ _ _ _ _ c.put_action_line.ensures body) c.put.ensures)
