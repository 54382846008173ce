use Rattle.std.proofs.Common.{ℕ, List, subst}
use Rattle.sfc_list.specs.Values.{type_text}
use Rattle.sfc_list.specs.Private.Sinking.{Puts}
use Rattle.sfc_list.proofs.Sunk.{puts_then}
use Rattle.sfc_list.proofs.variables.put_variable.Goals as goal

pub returns : goal.returns
returns g c =
    let n : _ = g.W.Write.contents in
    let name : Puts n c.args.out.now c.put.new.self c.args.variable.now.name =
    subst (λ (text : List ℕ). Puts n c.args.out.now c.put.new.self text) c.spelling.ensures.value c.put.ensures in
    let kind : Puts n c.put-2.new.self c.put-3.new.self (type_text c.args.variable.now.var_type) =
    subst (λ (text : List ℕ). Puts n c.put-2.new.self c.put-3.new.self text) c.type_word.ensures c.put-3.ensures in
    (puts_then n _ _ _ _ _ (puts_then n _ _ _ _ _ (puts_then n _ _ _ _ _ (puts_then n _ _ _ _ _ (puts_then n _ _ _ _ _ (puts_then n _ _ _ _ _ name c.put_at.ensures) c.put-2.ensures) kind) c.put-4.ensures) c.put_literal.ensures) c.put-5.ensures)
