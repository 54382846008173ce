-- The rows of the feed.
use Rattle.std.specs.Prelude.{◌≡◌, ◌-◌, ◌<◌, true, List, [], ◌∷◌, All, AllPairs, slice_get, Some}
use Rattle.sfc_plant.specs.Plants.{PlantData}
use Rattle.sfc_events.specs.declared.command.TraceRow.{TraceRow}
use Rattle.sfc_debug.specs.declared.break_condition.BreakCondition.{BreakCondition}
use Rattle.sfc_debug.specs.declared.trace_mask.TraceMask.{TraceMask}
use Rattle.sfc_debug.specs.Histories.{CommandHistory}
use Rattle.sfc_debug.specs.Tracing.{is_wanted, row_of}
use Rattle.sfc_control.specs.declared.entry.Entry.{Entry}
use Rattle.sfc_control.specs.LegalHistory.{timed}

-- the row's number is higher than those before it
abbrev pub ComesAfter : List TraceRow → TraceRow → Type 0
ComesAfter before row = All (λ earlier. earlier.number < row.number) before

-- the numbers rise
abbrev pub Rise : List TraceRow → Type 0
Rise rows = AllPairs (λ a b. a.number < b.number) rows

-- the rows of the entries after a history, each with its run instant and its number
abbrev pub rows_after : PlantData → List BreakCondition → CommandHistory → List Entry → List TraceRow
rows_after plant table h [] = []
rows_after plant table h (e ∷ es) = row_of plant table h e.command e.raw e.answer ∷ rows_after plant table (timed e ∷ h) es

-- the row is that of the entry at its number, and wanted
abbrev pub IsRow : PlantData → List BreakCondition → TraceMask → List Entry → TraceRow → Type 0
IsRow plant table mask es row =
    (0 < row.number) × (slice_get (rows_after plant table [] es) (row.number - 1) ≡ Some row) × (is_wanted mask row.command ≡ true)
