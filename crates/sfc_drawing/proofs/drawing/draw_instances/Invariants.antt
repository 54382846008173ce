use Rattle.std.proofs.Common.{take}
use Rattle.sfc_drawing.specs.Drawings.{AreOfInstances}
use Rattle.sfc_drawing.proofs.drawing.draw_instances.Given as goal

abbrev pub invariant-loop-marked : goal.invariant-loop-marked
invariant-loop-marked l = AreOfInstances l.plant (take l.marked-index l.instances) l.charts.items
