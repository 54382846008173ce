use Rattle.sfc_drawing.specs.Pictures.{body_text}
use Rattle.sfc_drawing.proofs.Joins.{item_more}
use Rattle.sfc_drawing.proofs.picture.append_bodies.Goals as goal

pub loop-body-preserved : goal.loop-body-preserved
loop-body-preserved c =
    item_more (body_text c.args.chart.now) _ _ _ c.args.bodies.now c.loop-body.body-index c.body-item.result
    c.loop-body-test.true c.body-item.is
    c.loop-body.invariant c.in_ok-append_body.ensures
