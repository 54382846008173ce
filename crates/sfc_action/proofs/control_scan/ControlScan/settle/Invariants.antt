use Rattle.std.proofs.Common.{◌≡◌, ◌<◌, ℕ, true, false, length}
use Rattle.sfc_base.specs.Ticks.{Within}
use Rattle.sfc_flags.specs.Flags.{flag}
use Rattle.sfc_flags.specs.Words.{AreDone, word_of}
use Rattle.sfc_action.specs.Private.ControlScans.{IsControlScan}
use Rattle.sfc_action.specs.Private.Calling.{called_of}
use Rattle.sfc_action.specs.Private.Rows.{input_row, store_row, timed_row, no_times, stores_after, has_fault}
use Rattle.sfc_action.proofs.control_scan.ControlScan.settle.Given as goal

abbrev pub invariant-loop-number : goal.invariant-loop-number
invariant-loop-number l = record {
  sized : IsControlScan (length l.initial.self.called) l.self;
  inputs : l.self.inputs ≡ l.initial.self.inputs;
  presets : l.self.presets ≡ l.initial.self.presets;
  stores : AreDone l.number (λ (a : ℕ). stores_after (input_row l.initial.self.inputs a) (store_row l.stored.stores a))
      (store_row l.initial.self.stores) (store_row l.self.stores);
  called : AreDone l.number (λ (a : ℕ). called_of (input_row l.initial.self.inputs a)
      (stores_after (input_row l.initial.self.inputs a) (store_row l.stored.stores a)))
      (flag l.initial.self.called) (flag l.self.called);
  elapsed : AreDone l.number (λ (a : ℕ). no_times) (timed_row l.initial.self.elapsed) (timed_row l.self.elapsed);
  faultless : l.settled.is_faultless ≡ true → (a : ℕ) → word_of a < l.number → has_fault (input_row l.initial.self.inputs a)
      (stores_after (input_row l.initial.self.inputs a) (store_row l.stored.stores a)) ≡ false;
  uncalled : l.settled.is_called ≡ false → (a : ℕ) → word_of a < l.number → called_of (input_row l.initial.self.inputs a)
      (stores_after (input_row l.initial.self.inputs a) (store_row l.stored.stores a)) ≡ false;
  ticks : Within l.number l.initial.ticks l.ticks;
}
