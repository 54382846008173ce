use Rattle.sfc_base.specs.Ticks.{Within}
use Rattle.sfc_evolve.proofs.copying.count.Given as goal

abbrev pub invariant-loop : goal.invariant-loop
invariant-loop l = record {
  ticks : Within l.counter l.initial.ticks l.ticks;
}
