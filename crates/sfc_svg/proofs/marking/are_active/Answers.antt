use Rattle.std.proofs.Common.{◌∙◌, rules, sym}
use Rattle.sfc_base.specs.declared.references.StepId.{StepId}
use Rattle.sfc_replay.specs.sfc_instance.Answers.{is_step_active}
use Rattle.sfc_replay.specs.sfc_instance.Views.{tables_in}
use Rattle.sfc_svg.proofs.Tests.{all_more}
use Rattle.sfc_svg.proofs.marking.are_active.Goals as goal

pub loop-step-preserved : goal.loop-step-preserved
loop-step-preserved c changes state shows =
    all_more (λ (step : StepId). is_step_active (tables_in c.args.view.now) state step.0) c.args.steps.now c.loop-step.step-index _
    c.loop-step-test.true (c.loop-step.invariant changes state shows) (sym (c.active.ensures changes state shows) ∙ search rules)
