use Rattle.std.proofs.Common.{◌≡◌, drop, length}
use Rattle.sfc_base.specs.Ticks.{Within}
use Rattle.sfc_action.specs.Private.Marking.{AreSized, all_marked, all_presets}
use Rattle.sfc_action.proofs.marking.note_all.Given as goal

abbrev pub invariant-loop-association : goal.invariant-loop-association
invariant-loop-association l = record {
  sized : AreSized (length l.presets) l.inputs;
  inputs : all_marked (drop l.association-index l.associations) l.inputs ≡ all_marked l.associations l.initial.inputs;
  presets : all_presets l.times (drop l.association-index l.associations) l.presets
      ≡ all_presets l.times l.associations l.initial.presets;
  ticks : Within l.association-index l.initial.ticks l.ticks;
}
