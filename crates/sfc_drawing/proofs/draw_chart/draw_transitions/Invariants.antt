use Rattle.std.proofs.Common.{◌≡◌, map, take, drop}
use Rattle.sfc_drawing.specs.Said.{transition_drawn, transitions_said}
use Rattle.sfc_drawing.proofs.draw_chart.draw_transitions.Given as goal

abbrev pub invariant-loop-number : goal.invariant-loop-number
invariant-loop-number l = record {
  said : map transition_drawn l.drawn.items ≡ transitions_said l.marks (take l.number l.transitions);
  places : map (λ t. t.place) l.drawn.items ≡ take l.number (drop l.spots.steps l.spots.layout.now.boxes.items);
}
