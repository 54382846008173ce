use Rattle.std.proofs.Common.{◌≡◌, ◌≤◌, ◌+◌, ◌*◌, length}
use Rattle.sfc_flags.specs.Flags.{places_from}
use Rattle.sfc_action.specs.Private.Marking.{AreSized, marked_at, presets_at, work_from}
use Rattle.sfc_action.proofs.marking.mark_words.Given as goal

abbrev pub invariant-loop-number : goal.invariant-loop-number
invariant-loop-number l = record {
  sized : AreSized (length l.presets) l.inputs;
  inputs : marked_at l.tables.associations (places_from l.active (l.number * 64)) l.inputs
      ≡ marked_at l.tables.associations (places_from l.active 0) l.initial.inputs;
  presets : presets_at l.associations.times.now l.tables.associations (places_from l.active (l.number * 64)) l.presets
      ≡ presets_at l.associations.times.now l.tables.associations (places_from l.active 0) l.initial.presets;
  rises : l.initial.ticks.count ≤ l.ticks.count;
  ticks : l.ticks.count + work_from l.tables.associations l.active (l.number * 64)
      ≤ l.initial.ticks.count + work_from l.tables.associations l.active 0;
}
