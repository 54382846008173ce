use Rattle.sfc_list.specs.Private.Parts.{further_step}
use Rattle.sfc_list.proofs.Sunk.{puts_next}
use Rattle.sfc_list.proofs.transition.put_further_steps.Goals as goal

pub loop-step-preserved : goal.loop-step-preserved
loop-step-preserved g c =
    puts_next g.W.Write.contents _ _ _ (further_step c.args.names.now) c.args.steps.now c.loop-step.step-index _
    c.loop-step-test.true c.loop-step.invariant c.put_further_step.ensures
