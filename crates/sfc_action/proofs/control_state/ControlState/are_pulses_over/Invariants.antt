use Rattle.std.proofs.Common.{◌≡◌, ℕ, ◌<◌, ◌&&◌, false}
use Rattle.sfc_base.specs.Ticks.{Within}
use Rattle.sfc_flags.specs.Flags.{flag}
use Rattle.sfc_flags.specs.Words.{word_of}
use Rattle.sfc_action.proofs.control_state.ControlState.are_pulses_over.Given as goal

abbrev pub invariant-loop-number : goal.invariant-loop-number
invariant-loop-number l = record {
  over : (a : ℕ) → word_of a < l.number → (flag l.self.kept.pulse a && flag l.self.q a) ≡ false;
  ticks : Within l.number l.initial.ticks l.ticks;
}
