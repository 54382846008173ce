use Rattle.sfc_base.specs.Ticks.{Within}
use Rattle.sfc_image.specs.Private.Keeping.{AreClosed}
use Rattle.sfc_image.proofs.closing.close_all.Given as goal

abbrev pub invariant-loop-j : goal.invariant-loop-j
invariant-loop-j l = record {
  closed : AreClosed l.keep l.numbers l.j l.initial.slots l.slots;
  ticks : Within l.j l.initial.ticks l.ticks;
}
