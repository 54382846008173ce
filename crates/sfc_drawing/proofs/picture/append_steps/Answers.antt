use Rattle.sfc_drawing.specs.Steps.{step_text}
use Rattle.sfc_drawing.proofs.Joins.{item_more}
use Rattle.sfc_drawing.proofs.picture.append_steps.Goals as goal

pub loop-step-preserved : goal.loop-step-preserved
loop-step-preserved c =
    item_more (step_text c.args.chart.now) _ _ _ c.args.steps.now c.loop-step.step-index c.step-item.result
    c.loop-step-test.true c.step-item.is
    c.loop-step.invariant c.in_ok-append_step.ensures
