use Rattle.std.proofs.Common.{slice_get, rules}
use Rattle.sfc_drawing.specs.Said.{row_drawn, row_said}
use Rattle.sfc_drawing.specs.Told.{action_mark}
use Rattle.sfc_drawing.proofs.Lists.{counted_more}
use Rattle.sfc_drawing.proofs.draw_step.draw_rows.Goals as goal

pub loop-number-preserved : goal.loop-number-preserved
loop-number-preserved c =
    counted_more row_drawn (λ n a. row_said c.args.names.now (action_mark (slice_get c.args.marks.now n)) a) _ _
    c.args.associations.now c.loop-number.number _ _ c.loop-number-test.true c.index-associations-number.is c.loop-number.invariant
    (search rules) c.in_ok-push.ensures.items
