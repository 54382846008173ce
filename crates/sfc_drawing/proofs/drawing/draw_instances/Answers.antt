use Rattle.sfc_drawing.proofs.Lists.{instance_more}
use Rattle.sfc_drawing.proofs.drawing.draw_instances.Goals as goal

pub loop-marked-preserved : goal.loop-marked-preserved
loop-marked-preserved c =
    instance_more c.args.plant.now c.args.instances.now _ _ c.loop-marked.marked-index c.marked-item.result _ c.loop-marked-test.true
    c.marked-item.is c.loop-marked.invariant c.in_ok-drawn.ensures c.in_ok-push_drawn.ensures
