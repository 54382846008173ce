use Rattle.sfc_base.specs.Ticks.{Within}
use Rattle.sfc_image.specs.Private.Keeping.{AreBegun}
use Rattle.sfc_image.proofs.closing.begin_all.Given as goal

abbrev pub invariant-loop-k : goal.invariant-loop-k
invariant-loop-k l = record {
  begun : AreBegun l.first l.k l.initial.slots l.slots;
  ticks : Within l.k l.initial.ticks l.ticks;
}
