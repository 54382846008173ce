use Rattle.std.proofs.Common.{◌≡◌, drop}
use Rattle.std.specs.List.{list_all}
use Rattle.sfc_base.specs.Ticks.{Within}
use Rattle.sfc_flags.specs.Flags.{flag}
use Rattle.sfc_evolve.proofs.marks.all_set.Given as goal

abbrev pub invariant-loop-step : goal.invariant-loop-step
invariant-loop-step l = record {
  rest : list_all (λ step. flag l.flags step.0) (drop l.step-index l.steps) ≡ list_all (λ step. flag l.flags step.0) l.steps;
  ticks : Within l.step-index l.initial.ticks l.ticks;
}
