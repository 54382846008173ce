use Rattle.std.proofs.Common.{◌≡◌, map, take}
use Rattle.sfc_drawing.specs.Said.{body_drawn, bodies_said}
use Rattle.sfc_drawing.proofs.draw_body.draw_bodies.Given as goal

abbrev pub invariant-loop-number : goal.invariant-loop-number
invariant-loop-number l = map body_drawn l.drawn.items ≡ bodies_said l.marks (take l.number l.actions)
