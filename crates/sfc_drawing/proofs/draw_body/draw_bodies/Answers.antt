use Rattle.std.proofs.Common.{slice_get, rules}
use Rattle.sfc_drawing.specs.Said.{body_drawn, body_said}
use Rattle.sfc_drawing.specs.Told.{action_mark}
use Rattle.sfc_drawing.proofs.Lists.{counted_more}
use Rattle.sfc_drawing.proofs.draw_body.draw_bodies.Goals as goal

pub loop-number-preserved : goal.loop-number-preserved
loop-number-preserved c =
    counted_more body_drawn (λ n a. body_said (action_mark (slice_get c.args.marks.now.bodies n)) a) _ _ c.args.actions.now
    c.loop-number.number _ _ c.loop-number-test.true c.index-actions-number.is c.loop-number.invariant (search rules)
    c.in_ok-push.ensures.items
