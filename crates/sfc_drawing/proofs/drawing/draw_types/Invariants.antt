use Rattle.std.proofs.Common.{take}
use Rattle.sfc_drawing.specs.Drawings.{AreOf}
use Rattle.sfc_drawing.proofs.drawing.draw_types.Given as goal

abbrev pub invariant-loop-number : goal.invariant-loop-number
invariant-loop-number l = AreOf l.plant.globals (take l.number l.types) l.charts.items
