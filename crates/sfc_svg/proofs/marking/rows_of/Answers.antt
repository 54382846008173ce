use Rattle.sfc_replay.specs.sfc_instance.Views.{tables_in}
use Rattle.sfc_svg.specs.Marking.{row_told}
use Rattle.sfc_svg.proofs.Ranges.{made_more}
use Rattle.sfc_svg.proofs.marking.rows_of.Goals as goal

pub loop-association-preserved : goal.loop-association-preserved
loop-association-preserved c changes state shows =
    made_more (row_told (tables_in c.args.view.now) state c.args.forces.now c.args.step.0) c.args.associations.now
    c.loop-association.association-index _ _ _ _ c.loop-association-test.true (c.loop-association.invariant changes state shows)
    (c.row_mark-mark.ensures changes state shows) c.in_ok-push.ensures.items
