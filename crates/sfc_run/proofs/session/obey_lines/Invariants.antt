use Rattle.std.proofs.Common.{◌≡◌, length}
use Rattle.sfc_control.specs.sfc_debug.Agreement.{plant_of}
use Rattle.sfc_run.specs.Holding.{scene}
use Rattle.sfc_run.specs.Working.Walking.{Walks}
use Rattle.sfc_run.proofs.session.obey_lines.Given as goal

abbrev pub invariant-lines : goal.invariant-lines
invariant-lines g l = record {
  seat : l.console.seat.number ≡ l.initial.console.seat.number;
  walked : Walks (plant_of l.desk.names.now) g.L.OpenedWith.plant g.L.OpenedWith.table g.L.OpenedWith.limit g.C.Clock.reads
      l.initial.waiting.lines l.initial.waiting l.waiting (scene l.initial.console (g.E.Write.contents l.initial.errors))
      (scene l.console (g.E.Write.contents l.errors));
}

abbrev pub decreases-lines : goal.decreases-lines
decreases-lines g l = length l.waiting.lines
