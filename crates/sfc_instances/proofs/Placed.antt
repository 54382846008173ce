-- Where the faults are that stand.
use Rattle.std.proofs.Common.{◌≡◌, ◌==◌, ℕ, suc, Bool, true, false, cond, ℤ, List, [], ◌∷◌, is_some, refl}
use Rattle.sfc_base.specs.declared.ids.ProgId.{ProgId}
use Rattle.sfc_base.specs.declared.ids.TaskId.{TaskId}
use Rattle.sfc_plant.specs.declared.instance.Instance.{Instance}
use Rattle.sfc_plant.specs.Plants.{PlantData}
use Rattle.sfc_instance.specs.Life.{InstanceState, fresh}
use Rattle.sfc_instance.proofs.FoundAgain.{stands_placed}
use Rattle.sfc_instances.specs.PlantState.{PlantState, opened, after_program, program_scan, after_instance, after_task, after_reset}
use Rattle.sfc_instances.specs.Places.{ArePlaced}

abbrev IsPlaced : InstanceState → Type 0
IsPlaced one = is_some one.place ≡ is_some one.fault

with_placed : (b : Bool) (one other : InstanceState) → IsPlaced one → IsPlaced other → IsPlaced (cond b one other)
with_placed true one other h g = h
with_placed false one other h g = g

pub opened_placed : ArePlaced opened
opened_placed k = refl

pub reset_placed : (p : ProgId) (state : PlantState) → ArePlaced state → ArePlaced (after_reset p state)
reset_placed p state placed j = with_placed (j == p.0) fresh (state.instance_state j) refl (placed j)

module _ (plant : PlantData) (task : TaskId) (t : ℤ) where
  program_placed : (k : ℕ) (state : PlantState) → ArePlaced state
      → ArePlaced (after_program (record { 0 = k }) (program_scan plant t k state) state)
  unfolding program_scan
  program_placed k state placed j =
      with_placed (j == k) (program_scan plant t k state).instance_state (state.instance_state j)
      (stands_placed plant (record { 0 = k }) (state.instance_state k) state.changes t (state.instance_state k).fault refl (placed k)) (placed j)

  either_placed : (b : Bool) (one other : PlantState) → ArePlaced one → ArePlaced other → ArePlaced (cond b one other)
  either_placed true one other h g = h
  either_placed false one other h g = g

  instances_placed : (k : ℕ) (instances : List Instance) (state : PlantState) → ArePlaced state
      → ArePlaced (after_task plant task t k instances state)
  instances_placed k [] state placed = placed
  instances_placed k (instance ∷ instances) state placed =
      instances_placed (suc k) instances (after_instance plant task t k instance state)
      (either_placed (instance.task.0 == task.0) (after_program (record { 0 = k }) (program_scan plant t k state) state) state
      (program_placed k state placed) placed)

  pub task_placed : (state : PlantState) → ArePlaced state → ArePlaced (after_task plant task t 0 plant.instances state)
  task_placed state placed = instances_placed 0 plant.instances state placed
