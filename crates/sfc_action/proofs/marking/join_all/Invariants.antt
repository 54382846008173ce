use Rattle.std.proofs.Common.{◌≡◌, ℕ, drop, length}
use Rattle.sfc_base.specs.Ticks.{Within}
use Rattle.sfc_action.specs.Private.Marking.{AreSized}
use Rattle.sfc_action.specs.Private.Rows.{input_row}
use Rattle.sfc_action.specs.Private.StepGiving.{all_joined}
use Rattle.sfc_action.proofs.marking.join_all.Given as goal

abbrev pub invariant-loop-run : goal.invariant-loop-run
invariant-loop-run l = record {
  count : length l.inputs.any_time ≡ length l.initial.inputs.any_time;
  sized : AreSized (length l.initial.inputs.any_time) l.inputs;
  rows : (a : ℕ) → all_joined a (drop l.run-index l.runs) (input_row l.inputs a) ≡ all_joined a l.runs (input_row l.initial.inputs a);
  ticks : Within l.run-index l.initial.ticks l.ticks;
}
