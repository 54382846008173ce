-- What is shown of a chart: each of its faults at its place, or warnings where it has none.
use Rattle.std.specs.Prelude.{◌≡◌, ℕ, ◌+◌, min, List, [], ◌∷◌, length, All, ⊤}
use Rattle.sfc_places.specs.declared.span.Span.{Span}
use Rattle.sfc_names.specs.declared.diagnostic.Diagnostic.{Diagnostic}
use Rattle.sfc_names.specs.declared.diagnostic.Severity.TheVariants.{Error, Warning}
use Rattle.sfc_why.specs.declared.place.Place.{Place}
use Rattle.sfc_why.specs.declared.place.Place.TheVariants as place
use Rattle.sfc_why.specs.declared.report.Report.{Report}
use Rattle.sfc_why.specs.Telling.{ExplainsAll}

-- so many bytes from a place on
abbrev pub bytes_from : ℕ → ℕ → Span
bytes_from from length = record { from = from; to = min (from + length) 18446744073709551615 }

-- the bytes of a place
abbrev pub span_of : List ℕ → Place → Span
span_of text (place.Token index from length) = bytes_from from length
span_of text (place.Byte index from length) = bytes_from from length
span_of text (place.Word from length) = bytes_from from length
span_of text place.End = record { from = length text; to = length text }
span_of text place.Whole = record { from = 0; to = 0 }

-- the fault of a report is shown at its place
abbrev pub IsFault : List ℕ → Report → Diagnostic → Type 0
IsFault text report found = (found.severity ≡ Error) × (found.span ≡ span_of text report.place)

-- the faults of reports, in their order
abbrev pub AreFaults : List ℕ → List Report → List Diagnostic → Type 0
AreFaults text [] [] = ⊤
AreFaults text [] (found ∷ others) = ⊥
AreFaults text (report ∷ reports) [] = ⊥
AreFaults text (report ∷ reports) (found ∷ others) = IsFault text report found × AreFaults text reports others

abbrev pub IsWarning : Diagnostic → Type 0
IsWarning found = found.severity ≡ Warning

abbrev pub AreWarnings : List Diagnostic → Type 0
AreWarnings found = All IsWarning found

-- where a chart has no fault, only warnings are shown; else all its faults are, and nothing else
abbrev pub Shows : List ℕ → List Report → List Diagnostic → Type 0
Shows text [] found = AreWarnings found
Shows text (report ∷ reports) found = AreFaults text (report ∷ reports) found

-- What is shown of a chart: its faults, as `why --all` tells them. The first one is the first fault of the chart.
abbrev pub DiagnosesChart : List ℕ → List Diagnostic → Type 0
DiagnosesChart text found = (reports : List Report) × ExplainsAll text reports × Shows text reports found
