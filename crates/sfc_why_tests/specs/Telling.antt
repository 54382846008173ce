-- What is told of a file of tests: in the words of the reader of tests.
use Rattle.std.specs.Prelude.{◌≡◌, ℕ, List, All, Ok, Err}
use Rattle.sfc_plant.specs.Plants.{PlantData}
use Rattle.sfc_cases.specs.Conditions.{IsReader, Reader}
use Rattle.sfc_cases.specs.Files.{FileData, file_of}
use Rattle.sfc_why.specs.Places.{IsPlaceOfScript}
use Rattle.sfc_why.specs.Telling.{IsReportInFile}
use Rattle.sfc_why.specs.declared.place.Place.{Place}
use Rattle.sfc_why.specs.declared.report.Fault.TheVariants.{Script}
use Rattle.sfc_why_tests.specs.declared.tests.TestFault.{TestFault}
use Rattle.sfc_why_tests.specs.declared.tests.TestsTold.{TestsTold}
use Rattle.sfc_why_tests.specs.declared.tests.TestsTold.TheVariants.{Fault, NoFault}

-- what is told is of this line of the text, at a place of the text, and has a number for the line in its file
abbrev pub IsFaultAt : List ℕ → ℕ → TestFault → Type 0
IsFaultAt text line fault = (fault.line ≡ line)
    × ((number : ℕ) × (place : Place) × IsPlaceOfScript text place × IsReportInFile text (Script number) place number fault.report)

-- The first faulty line exactly where the text can't be read; else names in its lines.
abbrev pub ExplainsTests : PlantData → List ℕ → TestsTold → Type 0
ExplainsTests plant text (Fault fault) = (line : ℕ) × IsFaultAt text line fault
    × ((read : Reader) → IsReader read → file_of plant read text ≡ Err line)
ExplainsTests plant text (NoFault faults) = All (λ fault. IsFaultAt text fault.line fault) faults.items
    × ((read : Reader) → IsReader read → (said : FileData) × (file_of plant read text ≡ Ok said))
