use Rattle.std.proofs.Common.{◌≡◌, ◌<◌, ℕ, get_or}
use Rattle.sfc_base.specs.Ticks.{Within}
use Rattle.sfc_action.specs.declared.input_words.InputWords.{InputWords}
use Rattle.sfc_action.specs.Private.Rows.{inputs_in, no_inputs}
use Rattle.sfc_action.proofs.inputs.clear_each.Given as goal

abbrev pub invariant-loop-number : goal.invariant-loop-number
invariant-loop-number l = record {
  clear : (k : ℕ) (d : InputWords) → k < l.number → (a : ℕ) → inputs_in (get_or l.words k d) a ≡ no_inputs;
  ticks : Within l.number l.initial.ticks l.ticks;
}
