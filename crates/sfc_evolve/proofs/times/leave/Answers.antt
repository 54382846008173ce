use Rattle.std.proofs.Common.{arith, get_or, length, ◌<◌, ◌∙◌}
use Rattle.std.proofs.lemmas.List.Elements.{All-get_or}
use Rattle.sfc_base.specs.declared.references.StepId.{StepId}
use Rattle.sfc_evolve.specs.Private.Keeping.{number}
use Rattle.sfc_evolve.proofs.Instants.{instant_low, instant_high, same_instant, time_is, left_one, left_all}
use Rattle.sfc_evolve.proofs.times.leave.Goals as goal

pub bounds-since-s : goal.bounds-since-s
bounds-since-s c =
    All-get_or (λ (step : StepId). step.0 < length c.args.since.now) c.args.steps.now c.loop-step.step-index record { 0 = 0 }
    c.loop-step-test.true c.requires.steps

pub time_since-requires-clause-low : goal.time_since-requires-clause-low
time_since-requires-clause-low c = instant_low c.args.t c.requires.low c.requires.high

pub time_since-requires-clause-high : goal.time_since-requires-clause-high
time_since-requires-clause-high c = instant_high c.args.t c.requires.low c.requires.high

pub time_since-requires-clause-since_low : goal.time_since-requires-clause-since_low
time_since-requires-clause-since_low c =
    let s = (get_or c.args.steps.now c.loop-step.step-index record { 0 = 0 }).0 in
    let instant = c.requires.instants s in
    instant_low (number c.args.since.now s) instant.0 instant.1

pub time_since-requires-clause-since_high : goal.time_since-requires-clause-since_high
time_since-requires-clause-since_high c =
    let s = (get_or c.args.steps.now c.loop-step.step-index record { 0 = 0 }).0 in
    let instant = c.requires.instants s in
    instant_high (number c.args.since.now s) instant.0 instant.1

pub bounds-held_times-s : goal.bounds-held_times-s
bounds-held_times-s c =
    let within = All-get_or (λ (step : StepId). step.0 < length c.args.since.now) c.args.steps.now c.loop-step.step-index record { 0 = 0 }
    c.loop-step-test.true c.requires.steps in
    omega (arith, within, c.loop-step.auto.held_times, c.requires.held_times_len)

pub loop-step-preserved : goal.loop-step-preserved
loop-step-preserved c =
    let t = c.args.t in
    let since = c.args.since.now in
    let steps = c.args.steps.now in
    let i = c.loop-step.step-index in
    let s = (get_or steps i record { 0 = 0 }).0 in
    let was = c.loop-step.invariant in
    let instant = c.requires.instants s in
    record {
      rest = left_one t _ (same_instant t c.requires.low c.requires.high) since steps i c.loop-step.held_times _ c.loop-step-test.true
          (time_is t (number since s) c.time_since.result c.requires.low c.requires.high instant.0 instant.1 c.time_since.ensures)
          ∙ was.rest;
      ticks = (omega (arith, was.ticks.0), omega (arith, was.ticks.1));
    }

pub returns-clause-held_times : goal.returns-clause-held_times
returns-clause-held_times c =
    left_all c.args.t _ (same_instant c.args.t c.requires.low c.requires.high) c.args.since.now c.args.steps.now
    c.loop-step.step-index c.loop-step.held_times c.args.held_times.now (omega arith) c.loop-step.invariant.rest
