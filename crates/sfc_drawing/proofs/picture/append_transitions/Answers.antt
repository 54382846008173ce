use Rattle.sfc_drawing.specs.Transitions.{transition_text}
use Rattle.sfc_drawing.proofs.Joins.{number_more}
use Rattle.sfc_drawing.proofs.picture.append_transitions.Goals as goal

pub loop-place-preserved : goal.loop-place-preserved
loop-place-preserved c =
    number_more (transition_text c.args.chart.now) _ _ _ c.args.transitions.now c.loop-place.place
    c.index-transitions-place.result c.loop-place-test.true
    c.index-transitions-place.is
    c.loop-place.invariant c.in_ok-append_transition.ensures
