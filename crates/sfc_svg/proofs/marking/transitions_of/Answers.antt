use Rattle.sfc_replay.specs.sfc_instance.Views.{tables_in}
use Rattle.sfc_svg.specs.Marking.{transition_told}
use Rattle.sfc_svg.proofs.Ranges.{mapped_more}
use Rattle.sfc_svg.proofs.marking.transitions_of.Goals as goal

pub loop-number-preserved : goal.loop-number-preserved
loop-number-preserved c changes state shows =
    mapped_more (transition_told (tables_in c.args.view.now) state) c.loop-number.number _ _ _ (c.loop-number.invariant changes state shows)
    (c.transition_mark-mark.ensures changes state shows) c.in_ok-push.ensures.items
