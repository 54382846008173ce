-- How much an event handles, at most.
use Rattle.std.specs.Prelude.{ℕ, suc, ◌+◌, ◌==◌, cond, List, [], ◌∷◌}
use Rattle.sfc_base.specs.declared.ids.TaskId.{TaskId}
use Rattle.sfc_plant.specs.declared.instance.Instance.{Instance}
use Rattle.sfc_plant.specs.Plants.{PlantData}
use Rattle.sfc_events.specs.declared.event.Event.{Event}
use Rattle.sfc_events.specs.declared.event.Event.TheVariants.{Scan, ForcedScan, Input, Force, Release, Reset}
use Rattle.sfc_instances.specs.sfc_image.Values.{variable_count}
use Rattle.sfc_plant.specs.Finding.{chart_of}
use Rattle.sfc_instances.specs.sfc_instance.Work.{scan_limit}
use Rattle.sfc_instances.specs.Work.{task_work, reset_work}

-- among the variables and the program instances
abbrev pub instances_work : PlantData → Event → ℕ
instances_work plant (Scan task) = task_work plant task 0 plant.instances
instances_work plant (ForcedScan task) = task_work plant task 0 plant.instances
instances_work plant (Input id v) = 1
instances_work plant (Force id v) = 1
instances_work plant (Release id) = 1
instances_work plant (Reset p) = reset_work plant p

-- with the places of the tasks
abbrev pub event_work : PlantData → Event → ℕ
event_work plant event = instances_work plant event + 128

-- ---- how much a scan of a task handles at most

-- instance k, if this task is its own
abbrev pub instance_limit : PlantData → TaskId → ℕ → Instance → ℕ
instance_limit plant task k instance =
    cond (instance.task.0 == task.0) (scan_limit (chart_of plant (record { 0 = k })) (variable_count plant)) 0

-- the task's instances among these; the first of these has number k
abbrev pub task_limit : PlantData → TaskId → ℕ → List Instance → ℕ
task_limit plant task k [] = 0
task_limit plant task k (instance ∷ instances) = instance_limit plant task k instance + task_limit plant task (suc k) instances
