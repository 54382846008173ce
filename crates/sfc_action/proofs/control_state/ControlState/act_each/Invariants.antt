use Rattle.std.proofs.Common.{◌≡◌, length}
use Rattle.sfc_base.specs.Ticks.{Within}
use Rattle.sfc_action.specs.Private.Keeping.{IsStateSized}
use Rattle.sfc_flags.specs.Words.{AreDone}
use Rattle.sfc_action.specs.Private.Rows.{state_row, state_row_after}
use Rattle.sfc_action.proofs.control_state.ControlState.act_each.Given as goal

abbrev pub invariant-loop-number : goal.invariant-loop-number
invariant-loop-number l = record {
  sized : IsStateSized (length l.initial.self.q) l.self;
  blocks : l.self.blocks ≡ l.initial.self.blocks;
  single : l.self.is_single ≡ l.initial.self.is_single;
  rows : AreDone l.number (state_row_after l.control_scan (state_row l.initial.self)) (state_row l.initial.self) (state_row l.self);
  ticks : Within l.number l.initial.ticks l.ticks;
}
