use Rattle.std.proofs.Common.{◌≡◌, drop, length}
use Rattle.sfc_base.specs.Ticks.{Within}
use Rattle.sfc_base.specs.Instants.{AreInstants}
use Rattle.sfc_evolve.specs.Private.Keeping.{put_at}
use Rattle.sfc_evolve.proofs.times.begin_steps.Given as goal

abbrev pub invariant-loop-step : goal.invariant-loop-step
invariant-loop-step l = record {
  rest : put_at l.t (drop l.step-index l.steps) l.since ≡ put_at l.t l.steps l.initial.since;
  since_length : length l.since ≡ length l.initial.since;
  instants : AreInstants l.since;
  ticks : Within l.step-index l.initial.ticks l.ticks;
}
