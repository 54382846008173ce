use Rattle.std.proofs.Common.{◌≡◌, drop}
use Rattle.sfc_base.specs.Ticks.{Within}
use Rattle.sfc_evolve.specs.Private.Keeping.{left_at}
use Rattle.sfc_evolve.proofs.times.leave.Given as goal

abbrev pub invariant-loop-step : goal.invariant-loop-step
invariant-loop-step l = record {
  rest : left_at l.t l.since (drop l.step-index l.steps) l.held_times ≡ left_at l.t l.since l.steps l.initial.held_times;
  ticks : Within l.step-index l.initial.ticks l.ticks;
}
