use Rattle.std.proofs.Common.{◌≡◌, map, take, slice_get}
use Rattle.sfc_drawing.specs.Said.{row_drawn, rows_said}
use Rattle.sfc_drawing.proofs.draw_step.draw_rows.Given as goal

abbrev pub invariant-loop-number : goal.invariant-loop-number
invariant-loop-number l = map row_drawn l.rows.items ≡ rows_said l.names l.marks (take l.number l.associations)
