use Rattle.std.proofs.Common.{◌≡◌, ◌++◌, map, take}
use Rattle.sfc_image.specs.Private.Keeping.{fresh_slot}
use Rattle.sfc_image.proofs.building.add_slots.Given as goal

abbrev pub invariant-loop-i : goal.invariant-loop-i
invariant-loop-i l = record {
  added : l.slots.items ≡ l.initial.slots.items ++ map fresh_slot (take l.i l.variables);
}
