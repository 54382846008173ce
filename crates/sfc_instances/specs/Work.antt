-- How much an event handles, at most.
use Rattle.std.specs.Prelude.{ℕ, ◌+◌, ◌==◌, suc, cond, List, [], ◌∷◌, length}
use Rattle.sfc_instance.specs.sfc_tables.Tables.{tables_of}
use Rattle.sfc_base.specs.declared.ids.ProgId.{ProgId}
use Rattle.sfc_base.specs.declared.ids.TaskId.{TaskId}
use Rattle.sfc_plant.specs.declared.instance.Instance.{Instance}
use Rattle.sfc_plant.specs.Plants.{PlantData}
use Rattle.sfc_instance.specs.sfc_image.Values.{variable_count}
use Rattle.sfc_plant.specs.Finding.{chart_of, instance_locals}
use Rattle.sfc_instance.specs.Work.{scan_work, copy_work}

-- a scan of one instance
abbrev pub program_work : PlantData → ProgId → ℕ
program_work plant p = scan_work (tables_of (chart_of plant p)) (chart_of plant p) (variable_count plant)

-- a scan of instance k, if this task is its own
abbrev pub instance_work : PlantData → TaskId → ℕ → Instance → ℕ
instance_work plant task k instance = cond (instance.task.0 == task.0) (program_work plant (record { 0 = k })) 0

-- a scan of the task's instances among these; the first of these has number k
abbrev pub task_work : PlantData → TaskId → ℕ → List Instance → ℕ
task_work plant task k [] = 0
task_work plant task k (instance ∷ instances) =
    instance_work plant task k instance + task_work plant task (suc k) instances

-- a reset of an instance: its steps and its action control, and its locals
abbrev pub reset_work : PlantData → ProgId → ℕ
reset_work plant p = copy_work (tables_of (chart_of plant p)) + length (instance_locals plant p)
