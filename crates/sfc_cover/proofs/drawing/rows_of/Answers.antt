use Rattle.sfc_replay.specs.sfc_tables.declared.step_action.StepAction.{StepAction}
use Rattle.sfc_cover.specs.Unreached.{action_mark}
use Rattle.sfc_cover.proofs.Ranges.{made_more}
use Rattle.sfc_cover.proofs.drawing.rows_of.Goals as goal

pub loop-association-preserved : goal.loop-association-preserved
loop-association-preserved c =
    made_more (λ (association : StepAction). action_mark c.args.reach.now association.action.0) c.args.associations.now
    c.loop-association.association-index _ _ _ _ c.loop-association-test.true c.loop-association.invariant c.action_mark.ensures
    c.in_ok-push.ensures.items
