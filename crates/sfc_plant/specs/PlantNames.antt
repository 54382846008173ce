-- Names as they were declared (2.1.2), of what a plant numbers.
use Rattle.std.specs.Prelude.{ℕ, List, [], ◌++◌, codes, Option, Some, None, slice_get}
use Rattle.sfc_base.specs.declared.ids.ProgId.{ProgId}
use Rattle.sfc_base.specs.declared.ids.TaskId.{TaskId}
use Rattle.sfc_base.specs.declared.ids.VarId.{VarId}
use Rattle.sfc_plant.specs.declared.image_variable.ImageVariable.{ImageVariable}
use Rattle.sfc_plant.specs.declared.image_variable.ImageVariable.TheVariants.{Global, Local}
use Rattle.sfc_plant.specs.VariableNames.{names_of}
use Rattle.sfc_plant.specs.Names as names
use Rattle.sfc_plant.specs.Names.{name_at}
use Rattle.sfc_plant.specs.Plants.{PlantData}
use Rattle.sfc_plant.specs.Image.{image_numbering}
use Rattle.sfc_plant.specs.Finding.{instance_locals}

abbrev pub task_name : PlantData → TaskId → List ℕ
task_name plant task = names.task_name plant.tasks task.0

abbrev pub instance_name : PlantData → ProgId → List ℕ
instance_name plant i = names.instance_name plant.instances i.0

-- a global variable by its name, and a local one as INST.NAME
abbrev pub image_variable_name : PlantData → Option ImageVariable → List ℕ
image_variable_name plant None = []
image_variable_name plant (Some (Global id)) = name_at (names_of plant.globals) id.0
image_variable_name plant (Some (Local i id)) =
    instance_name plant i ++ codes "." ++ name_at (names_of (instance_locals plant i)) id.0

-- the name of a variable of the image
abbrev pub image_name : PlantData → VarId → List ℕ
image_name plant id = image_variable_name plant (slice_get (image_numbering plant) id.0)
