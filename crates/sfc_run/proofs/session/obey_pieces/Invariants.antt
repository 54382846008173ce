use Rattle.std.proofs.Common.{◌≡◌, ◌≤◌, ◌-◌, ℕ, List, length}
use Rattle.std.specs.Io.KnownBytes.{Consumes}
use Rattle.sfc_control.specs.sfc_debug.Agreement.{plant_of}
use Rattle.sfc_run.specs.Holding.{scene}
use Rattle.sfc_run.specs.Working.Walking.{WalksOn, nothing}
use Rattle.sfc_run.proofs.session.obey_pieces.Given as goal

abbrev pub invariant-pieces : goal.invariant-pieces
invariant-pieces g l = record {
  seat : l.console.seat.number ≡ l.initial.console.seat.number;
  few : l.taken ≤ 4611686018427387904;
  walked : (bytes : List ℕ) × (length bytes ≡ l.taken)
      × Consumes (g.S.Read.remaining l.initial.commands) (g.S.Read.remaining l.commands) bytes
      × WalksOn (plant_of l.desk.names.now) g.L.OpenedWith.plant g.L.OpenedWith.table g.L.OpenedWith.limit g.C.Clock.reads bytes nothing
      l.waiting (scene l.initial.console (g.E.Write.contents l.initial.errors)) (scene l.console (g.E.Write.contents l.errors));
}

abbrev pub decreases-pieces : goal.decreases-pieces
decreases-pieces g l = 4611686018427387904 - l.taken
