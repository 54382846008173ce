-- Why a chart is refused, as text and as fields.
use Rattle.std.specs.Prelude.{◌≡◌, ℕ, List, [], codes, ℤ, pos, Option, IfSome}
use Rattle.sfc_events.specs.ReadErrors as reading
use Rattle.sfc_events.specs.LoadErrors as loading
use Rattle.sfc_explain.specs.declared.explanation.Explanation.{Explanation}
use Rattle.sfc_why.specs.Pages.{IsExplainedBy, page}
use Rattle.sfc_why.specs.declared.place.Place.{Place}
use Rattle.sfc_why.specs.declared.place.Place.TheVariants.{Token, Byte, Word, End, Whole}
use Rattle.sfc_why.specs.declared.report.Fault.{Fault}
use Rattle.sfc_why.specs.declared.report.Fault.TheVariants.{Reading, Loading, Script, Warning}
use Rattle.sfc_why.specs.declared.report.Report.{Report}
use Rattle.sfc_why.specs.declared.chart.Told.{Told}
use Rattle.sfc_why.specs.declared.chart.Told.TheVariants as told
use Rattle.sfc_c.specs.declared.why.ChartFault.{ChartFault}
use Rattle.sfc_c.specs.Codes.{no_memory}
use Rattle.sfc_c.specs.Texts.{GivesText, IsNone}

-- of a chart; a fault of a script isn't told here
abbrev pub number_of : Fault → ℤ
number_of (Reading kind) = pos (reading.number_of kind)
number_of (Loading error) = pos (loading.number_of error)
number_of (Script line) = pos 0
number_of (Warning refusal) = pos 0

-- how many bytes the place has
abbrev pub length_of : Place → ℕ
length_of (Token index from length) = length
length_of (Byte index from length) = length
length_of (Word from length) = length
length_of End = 0
length_of Whole = 0

abbrev pub no_fault : ChartFault
no_fault = record { line = 0; column = 0; length = 0; number = pos 0 }

-- its number, its line and column, and how long it is
abbrev pub fields_of : Report → ChartFault
fields_of report = record {
  line = report.position.line;
  column = report.position.column;
  length = length_of report.place;
  number = number_of report.refusal;
}

-- the text is this report's, with what is explained of its refusal, if that is
abbrev pub IsPageOf : Report → List ℕ → Type 0
IsPageOf report text =
    (explanation : Option Explanation) × IfSome explanation (IsExplainedBy report.refusal)
    × (text ≡ page (codes "chart") report explanation)

-- nothing of a text that is a chart, else the page of its first fault
abbrev pub IsTextOf : Told → List ℕ → Type 0
IsTextOf (told.NoFault plant) text = text ≡ []
IsTextOf (told.Fault report) text = IsPageOf report text

abbrev pub fault_of : Told → ChartFault
fault_of (told.NoFault plant) = no_fault
fault_of (told.Fault report) = fields_of report

-- what is told is given, as fields and as text
abbrev pub GivesTold : Told → ChartFault → List ℕ → List ℕ → ℕ → ℤ → Type 0
GivesTold said fault old new needed result =
    (fault ≡ fault_of said) × (text : List ℕ) × IsTextOf said text × GivesText text old new needed result

-- memory was refused, and nothing is told
abbrev pub TellsNothing : ChartFault → ChartFault → List ℕ → List ℕ → ℕ → ℤ → Type 0
TellsNothing before fault old new needed result = (fault ≡ before) × IsNone no_memory old new needed result
