use Rattle.std.proofs.Common.{◌≡◌, ◌++◌, take}
use Rattle.sfc_drawing.specs.Elements.{numbered}
use Rattle.sfc_drawing.specs.Steps.{row_text}
use Rattle.sfc_drawing.proofs.row.append_rows.Given as goal

abbrev pub invariant-loop-place : goal.invariant-loop-place
invariant-loop-place l = l.out.items ≡ l.initial.out.items ++ numbered (row_text l.chart l.step) 1 (take l.place l.rows)
