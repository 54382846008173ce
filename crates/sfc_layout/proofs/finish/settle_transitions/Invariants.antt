use Rattle.std.proofs.Common.{◌≡◌, ◌<◌, ◌+◌, ℕ, get_or, length}
use Rattle.sfc_layout.specs.declared.chart.Transition.{Transition}
use Rattle.sfc_layout.specs.declared.node_box.NodeBox.{NodeBox}
use Rattle.sfc_layout.specs.Sizes.{AreStepBoxes, IsOfSize, transition_extent}
use Rattle.sfc_layout.proofs.finish.settle_transitions.Given as goal

abbrev pub invariant-loop-number : goal.invariant-loop-number
invariant-loop-number l = record {
  len : length l.board.boxes.items ≡ length l.initial.board.boxes.items;
  steps : AreStepBoxes l.fn.steps l.board.boxes.items;
  boxes : (t : ℕ) (s : Transition) (d : NodeBox) → t < l.number → t < length l.transitions →
      IsOfSize (transition_extent (get_or l.transitions t s)) 12 (get_or l.board.boxes.items (l.count + t) d);
}
