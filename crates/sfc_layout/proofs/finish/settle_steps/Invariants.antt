use Rattle.std.proofs.Common.{◌≡◌, ◌<◌, ℕ, get_or, length}
use Rattle.sfc_layout.specs.declared.chart.Step.{Step}
use Rattle.sfc_layout.specs.declared.node_box.NodeBox.{NodeBox}
use Rattle.sfc_layout.specs.Sizes.{IsOfSize, step_extent}
use Rattle.sfc_layout.proofs.finish.settle_steps.Given as goal

abbrev pub invariant-loop-node : goal.invariant-loop-node
invariant-loop-node l = record {
  len : length l.board.boxes.items ≡ length l.initial.board.boxes.items;
  boxes : (v : ℕ) (s : Step) (d : NodeBox) → v < l.node → v < length l.steps →
      IsOfSize (step_extent (get_or l.steps v s)) 34 (get_or l.board.boxes.items v d);
}
