-- What functions answer.
use Rattle.std.specs.Prelude.{◌≡◌, ℕ, List, Result, Ok, Err, ⊤}
use Rattle.sfc_plant.specs.Plants.{PlantData}
use Rattle.sfc_script.specs.declared.script.ScriptError.{ScriptError}
use Rattle.sfc_script.specs.declared.script.ScriptError.TheVariants.{Faulty, Memory}
use Rattle.sfc_cases.specs.declared.sources.Sources.{Sources}
use Rattle.sfc_cases.specs.declared.test_file.TestFile.{TestFile}
use Rattle.sfc_cases.specs.Conditions.{IsReader, Reader}
use Rattle.sfc_cases.specs.Files.{FileData, file_of}

abbrev pub file_data : TestFile → FileData
file_data file = record { lines = file.lines.items; table = file.table.items }

-- what was returned is what the file says; want of memory says nothing
abbrev pub Tells : Result FileData ℕ → Result TestFile ScriptError → Type 0
Tells said (Ok file) = said ≡ Ok (file_data file)
Tells said (Err (Faulty n)) = said ≡ Err n
Tells said (Err Memory) = ⊤

abbrev pub ReadsTests : PlantData → List ℕ → Result TestFile ScriptError → Type 0
ReadsTests plant bytes result = (read : Reader) → IsReader read → Tells (file_of plant read bytes) result

-- the text of a file with those that it includes
unfoldable pub text_in : Sources → List ℕ
text_in sources = sources.text.items
