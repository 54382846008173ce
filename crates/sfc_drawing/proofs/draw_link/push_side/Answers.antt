use Rattle.sfc_drawing.specs.Said.{link_drawn, link_on}
use Rattle.sfc_drawing.proofs.Lists.{map_behind}
use Rattle.sfc_drawing.proofs.draw_link.push_side.Goals as goal

pub loop-step-preserved : goal.loop-step-preserved
loop-step-preserved c =
    map_behind link_drawn (link_on c.args.ranked.side c.args.spots.now.names.now c.args.ranked.place) c.args.drawn.now.items _ _
    c.args.steps.now c.loop-step.step-index _ _ c.loop-step-test.true c.loop-step.invariant c.in_ok-link.ensures c.in_ok-push.ensures.items
