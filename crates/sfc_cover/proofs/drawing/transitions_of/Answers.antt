use Rattle.sfc_cover.specs.Unreached.{transition_mark}
use Rattle.sfc_cover.proofs.Ranges.{mapped_more}
use Rattle.sfc_cover.proofs.drawing.transitions_of.Goals as goal

pub loop-number-preserved : goal.loop-number-preserved
loop-number-preserved c =
    mapped_more (transition_mark c.args.reach.now) c.loop-number.number _ _ _ c.loop-number.invariant c.transition_mark.ensures
    c.in_ok-push.ensures.items
