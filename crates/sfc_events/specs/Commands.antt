-- What a command of the debugger is for the resource.
use Rattle.std.specs.Prelude.{Option, Some, None}
use Rattle.sfc_events.specs.declared.command.Command.{Command}
use Rattle.sfc_events.specs.declared.command.Command.TheVariants as commands
use Rattle.sfc_events.specs.declared.event.Event.{Event}
use Rattle.sfc_events.specs.declared.event.Event.TheVariants.{Scan, ForcedScan, Input, Force, Release, Reset}

-- the event that it is, if it is one; a single scan needn't be due
abbrev pub event_of : Command → Option Event
event_of (commands.Scan task) = Some (Scan task)
event_of (commands.Single task delta) = Some (ForcedScan task)
event_of (commands.Input id v) = Some (Input id v)
event_of (commands.Force id v) = Some (Force id v)
event_of (commands.Release id) = Some (Release id)
event_of (commands.Reset p) = Some (Reset p)
event_of _ = None
