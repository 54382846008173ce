use Rattle.std.proofs.Common.{arith, length, ◌<◌, sym, ◌∙◌}
use Rattle.std.proofs.lemmas.List.Elements.{All-get_or}
use Rattle.sfc_base.specs.declared.references.StepId.{StepId}
use Rattle.sfc_flags.specs.Flags.{flag}
use Rattle.sfc_evolve.proofs.Tested.{all_more, all_stop, all_done}
use Rattle.sfc_evolve.proofs.marks.all_set.Goals as goal

pub get-requires : goal.get-requires
get-requires c =
    All-get_or (λ (step : StepId). step.0 < length c.args.flags.now) c.args.steps.now c.loop-step.step-index record { 0 = 0 }
    c.loop-step-test.true c.requires

pub returns-then-not-get-clause-value : goal.returns-then-not-get-clause-value
returns-then-not-get-clause-value c =
    all_stop (λ (step : StepId). flag c.args.flags.now step.0) c.args.steps.now c.loop-step.step-index _ c.loop-step-test.true
    (sym c.get.ensures ∙ c.if-not-get.true) c.loop-step.invariant.rest

pub loop-step-preserved : goal.loop-step-preserved
loop-step-preserved c =
    let was = c.loop-step.invariant in
    record {
      rest = all_more (λ (step : StepId). flag c.args.flags.now step.0) c.args.steps.now c.loop-step.step-index _
          c.loop-step-test.true (sym c.get.ensures ∙ c.if-not-get.false) was.rest;
      ticks = (omega (arith, was.ticks.0), omega (arith, was.ticks.1));
    }

pub returns-clause-value : goal.returns-clause-value
returns-clause-value c =
    all_done (λ (step : StepId). flag c.args.flags.now step.0) c.args.steps.now c.loop-step.step-index _ (omega arith)
    c.loop-step.invariant.rest
