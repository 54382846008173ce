use Rattle.std.proofs.Common.{◌≡◌, ◌≤◌, ◌+◌, ◌*◌, ℕ, length}
use Rattle.sfc_flags.specs.Flags.{places_from}
use Rattle.sfc_flags.specs.Words.{has}
use Rattle.sfc_flags.proofs.Fewer.{set_count}
use Rattle.sfc_action.specs.Private.Marking.{AreSized, marked_at, presets_at, work_from}
use Rattle.sfc_action.proofs.Stepping.{AreLeft}
use Rattle.sfc_action.proofs.marking.mark_word.Given as goal

abbrev pub invariant-active : goal.invariant-active
invariant-active l = record {
  sized : AreSized (length l.presets) l.inputs;
  rises : l.initial.ticks.count ≤ l.ticks.count;
  given : (k : ℕ) × AreLeft l.word.active.now l.word.number k l.left
      × (marked_at l.word.tables.now.associations (places_from l.word.active.now (l.word.number * 64 + k)) l.inputs
      ≡ marked_at l.word.tables.now.associations (places_from l.word.active.now (l.word.number * 64)) l.initial.inputs)
      × (presets_at l.associations.times.now l.word.tables.now.associations (places_from l.word.active.now (l.word.number * 64 + k)) l.presets
      ≡ presets_at l.associations.times.now l.word.tables.now.associations (places_from l.word.active.now (l.word.number * 64)) l.initial.presets)
      × (l.ticks.count + work_from l.word.tables.now.associations l.word.active.now (l.word.number * 64 + k)
      ≤ l.initial.ticks.count + work_from l.word.tables.now.associations l.word.active.now (l.word.number * 64));
}

abbrev pub decreases-active : goal.decreases-active
decreases-active l = set_count (has l.left) 64
