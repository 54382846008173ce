use Rattle.std.proofs.Common.{◌≡◌}
use Rattle.sfc_events.specs.declared.command.Command.TheVariants.{Scan}
use Rattle.sfc_control.specs.Working.{Receives}
use Rattle.sfc_control.proofs.work.worker.Given as goal

abbrev pub invariant-turns : goal.invariant-turns
invariant-turns g l = record {
  number : l.seat.number ≡ l.fn.seat.number;
  command : l.command ≡ Scan l.fn.task;
  received : Receives l.fn.seat.number l.fn.task l.fn.seat.given.calls l.seat.given.calls l.seat.first l.receipts.items;
}
