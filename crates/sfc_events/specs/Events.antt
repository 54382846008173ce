-- What an event is.
use Rattle.std.specs.Prelude.{Option, Some, None}
use Rattle.sfc_base.specs.declared.ids.TaskId.{TaskId}
use Rattle.sfc_events.specs.declared.event.Event.{Event}
use Rattle.sfc_events.specs.declared.event.Event.TheVariants.{Scan, ForcedScan, Input, Force, Release, Reset}

-- the task that it scans, if it is a scan (2.7.2)
abbrev pub scanned_task : Event → Option TaskId
scanned_task (Scan task) = Some task
scanned_task (ForcedScan task) = Some task
scanned_task (Input id v) = None
scanned_task (Force id v) = None
scanned_task (Release id) = None
scanned_task (Reset p) = None
