-- How much a scan of a task handles at most.
use Rattle.std.proofs.Common.{ℕ, suc, ◌≤◌, ◌==◌, Bool, true, false, cond, List, [], ◌∷◌, arith}
use Rattle.sfc_base.specs.declared.ids.TaskId.{TaskId}
use Rattle.sfc_plant.specs.declared.instance.Instance.{Instance}
use Rattle.sfc_plant.specs.Plants.{PlantData}
use Rattle.sfc_instances.specs.sfc_image.Values.{variable_count}
use Rattle.sfc_plant.specs.Finding.{chart_of}
use Rattle.sfc_instances.proofs.of_sfc_instance.Bounds.{scan_within}
use Rattle.sfc_instances.specs.Work.{task_work}
use Rattle.sfc_core.specs.Work.{task_limit}

where_own : (b : Bool) (m n : ℕ) → m ≤ n → cond b m 0 ≤ cond b n 0
where_own true m n le = le
where_own false m n le = omega arith

pub task_within : (plant : PlantData) (task : TaskId) (k : ℕ) (instances : List Instance)
    → task_work plant task k instances ≤ task_limit plant task k instances
task_within plant task k [] = omega arith
task_within plant task k (instance ∷ instances) =
    let chart = chart_of plant (record { 0 = k }) in
    omega (
      arith,
      task_within plant task (suc k) instances,
      where_own (instance.task.0 == task.0) _ _ (scan_within chart (variable_count plant)),
    )
