use Rattle.std.proofs.Common.{◌<◌, length, slice_get, rules, arith}
use Rattle.sfc_drawing.specs.Said.{step_drawn, step_said}
use Rattle.sfc_drawing.proofs.Lists.{counted_more, place_more, moved}
use Rattle.sfc_drawing.proofs.draw_chart.draw_steps.Goals as goal

pub loop-number-preserved : goal.loop-number-preserved
loop-number-preserved c =
    let boxes = c.args.spots.now.layout.now.boxes.items in
    let within : c.loop-number.number < length boxes = omega (arith, c.requires, c.loop-number-test.true) in
    record {
      said = counted_more step_drawn (λ n s. step_said c.args.names.now (slice_get c.args.marks.now.steps n) s) _ _ c.args.steps.now
          c.loop-number.number _ _ c.loop-number-test.true c.index-steps-number.is c.loop-number.invariant.said (search rules)
          c.in_ok-push.ensures.items;
      places = place_more (λ s. s.place) _ _ boxes c.loop-number.number _ within
          (moved boxes c.loop-number.number _ _ c.in_ok-draw_step.ensures.place c.in_ok-spot.ensures)
          c.loop-number.invariant.places c.in_ok-push.ensures.items;
    }
