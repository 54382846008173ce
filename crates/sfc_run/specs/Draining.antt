-- What a look into a feed finds.
use Rattle.std.specs.Prelude.{⊤}
use Rattle.sfc_events.specs.declared.command.TraceRow.{TraceRow}
use Rattle.sfc_run.specs.declared.draining.Found.{Found}
use Rattle.sfc_run.specs.declared.draining.Found.TheVariants.{Row, Nothing}

-- of a row
abbrev pub IfRow : Found → (TraceRow → Type 0) → Type 0
IfRow (Row row) holds = holds row
IfRow (Nothing drained) holds = ⊤

-- where there is none
abbrev pub IfNothing : Found → Type 0 → Type 0
IfNothing (Row row) holds = ⊤
IfNothing (Nothing drained) holds = holds
