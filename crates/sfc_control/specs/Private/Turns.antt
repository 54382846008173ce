-- What a refusal means to a worker.
use Rattle.std.specs.Prelude.{ℕ, ℤ, ◌+ℤ◌, Option, Some, None, Result, Ok, Err}
use Rattle.std.specs.Int.{saturate_signed, w64}
use Rattle.sfc_events.specs.declared.refusal.Refusal.{Refusal}
use Rattle.sfc_events.specs.declared.refusal.Refusal.TheVariants as refusals
use Rattle.sfc_control.specs.declared.call_error.CallError.{CallError}
use Rattle.sfc_control.specs.declared.call_error.CallError.TheVariants.{Refused, AuditMismatch}
use Rattle.sfc_control.specs.declared.gate.Turn.{Turn}
use Rattle.sfc_control.specs.declared.gate.Turn.TheVariants.{First, Done, Waits, Yielded, Halted}
use Rattle.sfc_control.specs.declared.work.Why.{Why}
use Rattle.sfc_control.specs.declared.work.Why.TheVariants.{Ended, Full, Clock, Audit}

-- the raw instant of a release, where run instants are below raw ones by the lag
abbrev pub raw_of : ℤ → Option ℤ → Option ℤ
raw_of lag None = None
raw_of lag (Some next) = Some (saturate_signed w64 (next +ℤ lag))

abbrev pub turn_by : ℤ → Refusal → Result Turn Why
turn_by lag (refusals.NotDue next) = Ok (Waits (raw_of lag next))
turn_by lag (refusals.Yield task) = Ok (Yielded task)
turn_by lag refusals.Stopped = Ok Halted
turn_by lag refusals.Ended = Err Ended
turn_by lag refusals.HistoryFull = Err Full
turn_by lag refusals.ClockBack = Err Clock
turn_by lag refusals.InstantRange = Err Clock
turn_by lag _ = Err Audit

-- another turn, or why it ends
abbrev pub turn_of : ℤ → CallError → Result Turn Why
turn_of lag (Refused refusal) = turn_by lag refusal
turn_of lag AuditMismatch = Err Audit

-- for how many receipts more there is room before the next turn: 65,536 before the first, and 4,096 where the task waits
abbrev pub room_before : Turn → ℕ
room_before First = 65536
room_before (Done receipt) = 0
room_before _ = 4096
