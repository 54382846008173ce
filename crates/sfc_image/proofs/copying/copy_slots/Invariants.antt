use Rattle.std.proofs.Common.{◌≡◌, take}
use Rattle.sfc_base.specs.Ticks.{Within}
use Rattle.sfc_image.proofs.copying.copy_slots.Given as goal

abbrev pub invariant-loop-i : goal.invariant-loop-i
invariant-loop-i l = record {
  slots : take l.i l.slots ≡ take l.i l.from_slots;
  written : take l.i l.written ≡ take l.i l.from_written;
  ticks : Within l.i l.initial.ticks l.ticks;
}
