use Rattle.std.proofs.Common.{◌≡◌}
use Rattle.sfc_replay.specs.sfc_debug.Histories.{CommandHistory}
use Rattle.sfc_c.specs.Resources.{Stands, slots_in, steered_in}
use Rattle.sfc_c.proofs.Trying.{GoesThrough}
use Rattle.sfc_c.proofs.scanning.take_turn.Given as goal

abbrev pub invariant-tasks : goal.invariant-tasks
invariant-tasks l = record {
  steered : steered_in l.plc ≡ steered_in l.initial.plc;
  slots : slots_in l.plc ≡ slots_in l.initial.plc;
  through : (h : CommandHistory) → Stands l.initial.plc h → GoesThrough (steered_in l.initial.plc) h l.raw l.plc l.number l.earliest;
}
