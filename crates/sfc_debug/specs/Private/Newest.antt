-- What a trace keeps.
use Rattle.std.specs.Prelude.{◌≡◌, List, take}
use Rattle.sfc_events.specs.declared.command.TraceRow.{TraceRow}
use Rattle.sfc_debug.specs.declared.trace.Trace.{Trace}

-- the newest of these rows, of which the newest is the first
abbrev pub KeepsNewest : Trace → List TraceRow → Type 0
KeepsNewest trace rows = trace.rows.items ≡ take trace.rows.capacity rows
