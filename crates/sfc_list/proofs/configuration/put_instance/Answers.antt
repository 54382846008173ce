use Rattle.std.proofs.Common.{ℕ, List, subst}
use Rattle.sfc_plant.specs.Names.{task_name, type_name}
use Rattle.sfc_list.specs.Private.Sinking.{Puts}
use Rattle.sfc_list.proofs.Sunk.{puts_then}
use Rattle.sfc_list.proofs.configuration.put_instance.Goals as goal

pub returns : goal.returns
returns g c =
    let n : _ = g.W.Write.contents in
    let name : Puts n c.put.new.self c.put-2.new.self c.args.instance.now.name =
    subst (λ (text : List ℕ). Puts n c.put.new.self c.put-2.new.self text) c.spelling.ensures.value c.put-2.ensures in
    let task : Puts n c.put-3.new.self c.put-4.new.self (task_name c.args.tasks.now c.args.instance.now.task.0) =
    subst (λ (text : List ℕ). Puts n c.put-3.new.self c.put-4.new.self text) c.task_name.ensures c.put-4.ensures in
    let kind : Puts n c.put-5.new.self c.put-6.new.self (type_name c.args.types.now c.args.instance.now.program.0) =
    subst (λ (text : List ℕ). Puts n c.put-5.new.self c.put-6.new.self text) c.type_name.ensures c.put-6.ensures in
    (puts_then n _ _ _ _ _ (puts_then n _ _ _ _ _ (puts_then n _ _ _ _ _ (puts_then n _ _ _ _ _ (puts_then n _ _ _ _ _ (puts_then n _ _ _ _ _ c.put.ensures name) c.put-3.ensures) task) c.put-5.ensures) kind) c.put-7.ensures)
