-- What a reader of scripts answers.
use Rattle.std.specs.Prelude.{ℕ, List, Result, Ok, Err, ⊤}
use Rattle.sfc_plant.specs.Plants.{PlantData}
use Rattle.sfc_script.specs.declared.script.Script.{Script}
use Rattle.sfc_script.specs.declared.script.ScriptError.{ScriptError}
use Rattle.sfc_script.specs.declared.script.ScriptError.TheVariants.{Faulty, Memory}
use Rattle.sfc_script.specs.Scripts.{ScriptData, ScriptReads}

-- the commands and conditions of a script that was read
abbrev pub script_data : Script → ScriptData
script_data script = record { commands = script.commands.items; table = script.conditions.items }

-- what was returned is one of these outcomes: a script, or the number of a faulty line; want of memory says nothing
abbrev pub Tells : (Result ScriptData ℕ → Type 0) → Result Script ScriptError → Type 0
Tells Reads (Ok script) = Reads (Ok (script_data script))
Tells Reads (Err (Faulty n)) = Reads (Err n)
Tells Reads (Err Memory) = ⊤

-- what the script says
abbrev pub ReadsScript : PlantData → List ℕ → Result Script ScriptError → Type 0
ReadsScript plant bytes result = Tells (λ outcome. ScriptReads plant bytes outcome) result
