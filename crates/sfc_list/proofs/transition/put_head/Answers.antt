use Rattle.std.proofs.Common.{List, map, subst}
use Rattle.sfc_base.specs.declared.references.StepId.{StepId}
use Rattle.sfc_list.specs.Charts.{side_text}
use Rattle.sfc_plant.specs.Names.{step_name}
use Rattle.sfc_list.specs.Private.Sinking.{Puts}
use Rattle.sfc_list.proofs.Sunk.{puts_then}
use Rattle.sfc_list.proofs.transition.put_head.Goals as goal

pub returns : goal.returns
returns g c =
    let n : _ = g.W.Write.contents in
    let space : _ = c.args.names.now in
    let from : Puts n c.put-2.new.self c.put_side.new.out (side_text (map (step_name space) c.args.transition.now.preceding)) =
    subst (λ (ss : List StepId). Puts n c.put-2.new.self c.put_side.new.out (side_text (map (step_name space) ss)))
    c.as_slice.ensures c.put_side.ensures in
    let to : Puts n c.put-3.new.self c.put_side-2.new.out (side_text (map (step_name space) c.args.transition.now.following)) =
    subst (λ (ss : List StepId). Puts n c.put-3.new.self c.put_side-2.new.out (side_text (map (step_name space) ss)))
    c.as_slice-2.ensures c.put_side-2.ensures in
    let named : _ = puts_then n _ _ _ _ _ (puts_then n _ _ _ _ _ c.put.ensures c.put_name.ensures) c.put_priority.ensures in
    let left : _ = puts_then n _ _ _ _ _ (puts_then n _ _ _ _ _ named c.put-2.ensures) from in
    puts_then n _ _ _ _ _ (puts_then n _ _ _ _ _ left c.put-3.ensures) to
