use Rattle.std.proofs.Common.{◌≡◌}
use Rattle.sfc_replay.specs.sfc_debug.Histories.{CommandHistory}
use Rattle.sfc_c.specs.Advancing.{Advances, goes_on}
use Rattle.sfc_c.specs.Resources.{Stands, slots_in, steered_in}
use Rattle.sfc_c.proofs.advancing.advance.Given as goal

abbrev pub invariant-scans : goal.invariant-scans
invariant-scans l = record {
  steered : steered_in l.plc ≡ steered_in l.initial.plc;
  slots : slots_in l.plc ≡ slots_in l.initial.plc;
  goes : l.told.end ≡ goes_on;
  count : l.told.scans ≡ l._count;
  advances : (h : CommandHistory) → Stands l.initial.plc h →
      (g : CommandHistory) × Advances (steered_in l.initial.plc) l.until h g l.told × Stands l.plc g;
}
