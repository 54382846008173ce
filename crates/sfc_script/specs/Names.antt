-- What a word in a name's place stands for: any word is a name, in any case.
use Rattle.std.specs.Prelude.{ℕ, List, Option, option_map, slice_get, unwrap_or}
use Rattle.sfc_base.specs.declared.var_type.VarType.{VarType}
use Rattle.sfc_base.specs.declared.ids.VarId.{VarId}
use Rattle.sfc_base.specs.declared.ids.TaskId.{TaskId}
use Rattle.sfc_base.specs.declared.ids.ProgId.{ProgId}
use Rattle.sfc_plant.specs.Plants.{PlantData}
use Rattle.sfc_plant.specs.Image.{image_variables}
use Rattle.sfc_plant.specs.Finding.{variable_named, task_named, instance_named}

-- the task with this name; else a number that no plant has
abbrev pub task_of : PlantData → List ℕ → TaskId
task_of plant word = unwrap_or (task_named plant word) (record { 0 = 255 })

-- the program instance with this name; else a number that no plant has
abbrev pub program_of : PlantData → List ℕ → ProgId
program_of plant word = unwrap_or (instance_named plant word) (record { 0 = 255 })

-- the variable with this name; else a number that no plant has
abbrev pub variable_of : PlantData → List ℕ → VarId
variable_of plant word = unwrap_or (variable_named plant word) (record { 0 = 65535 })

-- the type of a variable, if there is one with this number
abbrev pub type_of : PlantData → VarId → Option VarType
type_of plant id = option_map (λ v. v.var_type) (slice_get (image_variables plant) id.0)
