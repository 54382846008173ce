use Rattle.std.proofs.Common.{◌≡◌, drop, length}
use Rattle.sfc_base.specs.Ticks.{Within}
use Rattle.sfc_evolve.specs.Private.Keeping.{unmarked}
use Rattle.sfc_evolve.proofs.marks.unmark.Given as goal

abbrev pub invariant-loop-step : goal.invariant-loop-step
invariant-loop-step l = record {
  rest : unmarked (drop l.step-index l.steps) l.flags ≡ unmarked l.steps l.initial.flags;
  len : length l.flags ≡ length l.initial.flags;
  ticks : Within l.step-index l.initial.ticks l.ticks;
}
