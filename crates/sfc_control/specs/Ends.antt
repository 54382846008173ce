-- A worker's end.
use Rattle.std.specs.Prelude.{◌≡◌}
use Rattle.sfc_base.specs.declared.ids.TaskId.{TaskId}
use Rattle.sfc_control.specs.declared.seat.Seat.{Seat}
use Rattle.sfc_control.specs.declared.work.WorkerEnd.{WorkerEnd}
use Rattle.sfc_control.specs.Seats.{number, given, first_held}
use Rattle.sfc_control.specs.Working.{Receives}

-- its seat has the number of the one that was handed in, and its receipts are those of the accepted scans since, from the first entry on
-- that is held
pub record IsEndOf {X : Type 0} (task : TaskId) (seat : Seat X) (end : WorkerEnd X) : Type 0 where
  pub same : number end.seat ≡ number seat
  pub receipts : Receives (number seat) task (given seat) (given end.seat) (first_held end.seat) end.receipts.items
