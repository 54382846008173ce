use Rattle.std.proofs.Common.{arith, get_or, length, ◌<◌, ◌∙◌}
use Rattle.std.proofs.lemmas.List.{length-set}
use Rattle.std.proofs.lemmas.List.Elements.{All-get_or}
use Rattle.sfc_base.specs.declared.references.StepId.{StepId}
use Rattle.sfc_evolve.proofs.Instants.{same_instant, put_one, put_all, begun_instants}
use Rattle.sfc_evolve.proofs.times.begin_steps.Goals as goal

pub loop-step-preserved : goal.loop-step-preserved
loop-step-preserved c =
    let t = c.args.t in
    let steps = c.args.steps.now in
    let i = c.loop-step.step-index in
    let s = (get_or steps i record { 0 = 0 }).0 in
    let was = c.loop-step.invariant in
    let same = same_instant t c.requires.low c.requires.high in
    record {
      rest = put_one t _ same c.args.since.now steps i c.loop-step.since c.loop-step-test.true ∙ was.rest;
      since_length = length-set _ _ _ ∙ was.since_length;
      instants = begun_instants t _ c.loop-step.since s same c.requires.low c.requires.high was.instants;
      ticks = (omega (arith, was.ticks.0), omega (arith, was.ticks.1));
    }

pub returns-clause-since : goal.returns-clause-since
returns-clause-since c =
    put_all c.args.t _ (same_instant c.args.t c.requires.low c.requires.high) c.args.since.now c.args.steps.now
    c.loop-step.step-index c.loop-step.since c.args.since.now (omega arith) c.loop-step.invariant.rest

pub bounds-since-s : goal.bounds-since-s
bounds-since-s c =
    let within = All-get_or (λ (step : StepId). step.0 < length c.args.since.now) c.args.steps.now c.loop-step.step-index record { 0 = 0 }
    c.loop-step-test.true c.requires.steps in
    omega (arith, within, c.loop-step.invariant.since_length)
