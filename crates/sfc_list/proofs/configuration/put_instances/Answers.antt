use Rattle.sfc_list.specs.Private.Parts.{instance_line}
use Rattle.sfc_list.proofs.Sunk.{puts_item}
use Rattle.sfc_list.proofs.configuration.put_instances.Goals as goal

pub loop-instance-preserved : goal.loop-instance-preserved
loop-instance-preserved g c =
    puts_item g.W.Write.contents _ _ _ (instance_line c.args.tasks.now c.args.types.now) c.args.instances.now c.loop-instance.instance-index c.instance-item.result
    c.loop-instance-test.true c.instance-item.is c.loop-instance.invariant c.put_instance_line.ensures
