use Rattle.std.proofs.Common.{List, flat_map, codes, subst}
use Rattle.sfc_plant.specs.declared.variable.Variable.{Variable}
use Rattle.sfc_plant.specs.declared.program_type.ProgramType.{ProgramType}
use Rattle.sfc_plant.specs.declared.task.Task.{Task}
use Rattle.sfc_plant.specs.declared.instance.Instance.{Instance}
use Rattle.sfc_list.specs.Layout.{block}
use Rattle.sfc_list.specs.Listing.{variable_text}
use Rattle.sfc_list.specs.Private.Parts.{task_line, instance_line}
use Rattle.sfc_list.specs.Private.Sinking.{Puts}
use Rattle.sfc_list.proofs.Sunk.{puts_then}
use Rattle.sfc_list.proofs.configuration.put_configuration.Goals as goal

pub returns : goal.returns
returns g c =
    let n : _ = g.W.Write.contents in
    let globals : Puts n c.put_resource_line.new.out c.put_globals.new.out (block 2 (codes "VAR_GLOBAL") variable_text c.args.plant.now.globals) =
    subst (λ (vs : List Variable). Puts n c.put_resource_line.new.out c.put_globals.new.out (block 2 (codes "VAR_GLOBAL") variable_text vs))
    c.globals.ensures.value c.put_globals.ensures in
    let tasks : Puts n c.put_globals.new.out c.put_tasks.new.out (flat_map (task_line c.args.plant.now.globals) c.args.plant.now.tasks) =
    subst (λ (ts : List Task). Puts n c.put_globals.new.out c.put_tasks.new.out (flat_map (task_line c.args.plant.now.globals) ts))
    c.tasks.ensures.value
    (subst (λ (vs : List Variable). Puts n c.put_globals.new.out c.put_tasks.new.out (flat_map (task_line vs) c.tasks.result.now))
    c.globals-2.ensures.value c.put_tasks.ensures) in
    let instances : Puts n c.put_tasks.new.out c.put_instances.new.out
    (flat_map (instance_line c.args.plant.now.tasks c.args.plant.now.types) c.args.plant.now.instances) =
    subst (λ (is : List Instance). Puts n c.put_tasks.new.out c.put_instances.new.out
    (flat_map (instance_line c.args.plant.now.tasks c.args.plant.now.types) is)) c.instances.ensures.value
    (subst (λ (ps : List ProgramType). Puts n c.put_tasks.new.out c.put_instances.new.out
    (flat_map (instance_line c.args.plant.now.tasks ps) c.instances.result.now)) c.types.ensures.value
    (subst (λ (ts : List Task). Puts n c.put_tasks.new.out c.put_instances.new.out
    (flat_map (instance_line ts c.types.result.now) c.instances.result.now)) c.tasks-2.ensures.value c.put_instances.ensures)) in
    (puts_then n _ _ _ _ _ (puts_then n _ _ _ _ _ (puts_then n _ _ _ _ _ (puts_then n _ _ _ _ _ (puts_then n _ _ _ _ _ (puts_then n _ _ _ _ _ c.put_name_line.ensures c.put_resource_line.ensures) globals) tasks) instances) c.put.ensures) c.put-2.ensures)
