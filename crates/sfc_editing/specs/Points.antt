-- Breakpoints that the last accepted command sets or takes away.
use Rattle.std.specs.Prelude.{◌≡◌, ℕ, ◌-◌, List, length, Some, slice_get}
use Rattle.sfc_events.specs.declared.command.Command.{Command}
use Rattle.sfc_events.specs.declared.command.Command.TheVariants.{Break, BreakIf, Unbreak}
use Rattle.sfc_events.specs.declared.command.TraceRow.{TraceRow}
use Rattle.sfc_replay.specs.sfc_script.declared.point.Place.{Place}

-- the command sets a breakpoint there
abbrev pub Sets : Command → Place → Type 0
Sets (Break program point) place = (program ≡ place.program) × (point ≡ place.point)
Sets (BreakIf program point condition) place = (program ≡ place.program) × (point ≡ place.point)
Sets other place = ⊥

-- the command takes away the one that is there
abbrev pub Takes : Command → Place → Type 0
Takes (Unbreak program point) place = (program ≡ place.program) × (point ≡ place.point)
Takes other place = ⊥

-- so does the last of these rows
abbrev pub SetsLast : List TraceRow → Place → Type 0
SetsLast rows place = (row : TraceRow) × (slice_get rows (length rows - 1) ≡ Some row) × Sets row.command place

abbrev pub TakesLast : List TraceRow → Place → Type 0
TakesLast rows place = (row : TraceRow) × (slice_get rows (length rows - 1) ≡ Some row) × Takes row.command place
