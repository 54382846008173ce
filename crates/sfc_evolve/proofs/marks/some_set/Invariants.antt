use Rattle.std.proofs.Common.{◌≡◌, drop}
use Rattle.std.specs.List.{list_any}
use Rattle.sfc_base.specs.Ticks.{Within}
use Rattle.sfc_flags.specs.Flags.{flag}
use Rattle.sfc_evolve.proofs.marks.some_set.Given as goal

abbrev pub invariant-loop-step : goal.invariant-loop-step
invariant-loop-step l = record {
  rest : list_any (λ step. flag l.flags step.0) (drop l.step-index l.steps) ≡ list_any (λ step. flag l.flags step.0) l.steps;
  ticks : Within l.step-index l.initial.ticks l.ticks;
}
