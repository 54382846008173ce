use Rattle.std.proofs.Common.{◌≡◌, map, take}
use Rattle.sfc_drawing.specs.Said.{step_drawn, steps_said}
use Rattle.sfc_drawing.proofs.draw_chart.draw_steps.Given as goal

abbrev pub invariant-loop-number : goal.invariant-loop-number
invariant-loop-number l = record {
  said : map step_drawn l.drawn.items ≡ steps_said l.names l.marks (take l.number l.steps);
  places : map (λ s. s.place) l.drawn.items ≡ take l.number l.spots.layout.now.boxes.items;
}
