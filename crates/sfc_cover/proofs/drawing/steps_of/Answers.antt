use Rattle.sfc_cover.specs.Unreached.{step_mark}
use Rattle.sfc_cover.proofs.Ranges.{mapped_more}
use Rattle.sfc_cover.proofs.drawing.steps_of.Goals as goal

pub loop-number-preserved : goal.loop-number-preserved
loop-number-preserved c =
    mapped_more (step_mark c.args.tables.now c.args.reach.now) c.loop-number.number _ _ _ c.loop-number.invariant c.in_ok-mark.ensures
    c.in_ok-push.ensures.items
