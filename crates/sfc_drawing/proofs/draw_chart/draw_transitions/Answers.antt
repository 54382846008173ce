use Rattle.std.proofs.Common.{◌<◌, ◌∙◌, ap, length, drop, length-drop, slice_get, arith}
use Rattle.sfc_drawing.specs.Said.{transition_drawn, transition_said}
use Rattle.sfc_drawing.specs.Told.{transition_mark}
use Rattle.sfc_drawing.proofs.Lists.{counted_more, place_more, moved_behind}
use Rattle.sfc_drawing.proofs.draw_chart.draw_transitions.Goals as goal

pub loop-number-preserved : goal.loop-number-preserved
loop-number-preserved c =
    let boxes = c.args.spots.now.layout.now.boxes.items in
    let steps = c.args.spots.now.steps in
    let within : c.loop-number.number < length (drop steps boxes) =
    omega (arith, length-drop steps boxes, c.requires, c.loop-number-test.true) in
    record {
      said = counted_more transition_drawn (λ n t. transition_said (transition_mark (slice_get c.args.marks.now.transitions n)) t) _ _
          c.args.transitions.now c.loop-number.number _ _ c.loop-number-test.true c.index-transitions-number.is
          c.loop-number.invariant.said
          (c.in_ok-draw_transition.ensures.said ∙ ap (λ m. transition_said m c.index-transitions-number.result) c.transition-mark.ensures)
          c.in_ok-push.ensures.items;
      places = place_more (λ t. t.place) _ _ (drop steps boxes) c.loop-number.number _ within
          (moved_behind boxes steps c.loop-number.number _ _ c.in_ok-draw_transition.ensures.place c.in_ok-spot.ensures)
          c.loop-number.invariant.places c.in_ok-push.ensures.items;
    }
