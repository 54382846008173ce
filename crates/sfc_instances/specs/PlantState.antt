-- How the variables and the program instances of a plant stand.
use Rattle.std.specs.Prelude.{ℕ, suc, ◌==◌, cond, List, [], ◌∷◌, ℤ}
use Rattle.sfc_base.specs.declared.ids.ProgId.{ProgId}
use Rattle.sfc_base.specs.declared.ids.TaskId.{TaskId}
use Rattle.sfc_plant.specs.declared.instance.Instance.{Instance}
use Rattle.sfc_plant.specs.Plants.{PlantData}
use Rattle.sfc_instance.specs.sfc_image.Changes as image
use Rattle.sfc_instance.specs.Life.{InstanceState, fresh}
use Rattle.sfc_instance.specs.ProgramScan.{After, after_scan}

-- what was done with the variables, the newest first, and how each program instance stands, by its number
pub record PlantState : Type 0 where
  pub changes : List image.Change
  pub instance_state : ℕ → InstanceState

-- no variable was changed, and no instance was scanned
abbrev pub opened : PlantState
opened = record { changes = []; instance_state = λ k. fresh }

-- instance k stands so, and the others as they did
abbrev pub with_instance_state : ℕ → InstanceState → (ℕ → InstanceState) → ℕ → InstanceState
with_instance_state k instance_state others j = cond (j == k) instance_state (others j)

-- one change more
abbrev pub with_change : image.Change → PlantState → PlantState
with_change change state = record { changes = change ∷ state.changes; instance_state = state.instance_state }

-- after a scan of one instance
abbrev pub after_program : ProgId → After → PlantState → PlantState
after_program p after state = record {
  changes = after.changes;
  instance_state = with_instance_state p.0 after.instance_state state.instance_state;
}

-- a scan of instance k at t, over the variables as they stand (2.6.5)
unfoldable pub program_scan : PlantData → ℤ → ℕ → PlantState → After
program_scan plant t k state = after_scan plant (record { 0 = k }) (state.instance_state k) state.changes t

-- Instance k is scanned, if this task is its own.
abbrev pub after_instance : PlantData → TaskId → ℤ → ℕ → Instance → PlantState → PlantState
after_instance plant task t k instance state =
    cond (instance.task.0 == task.0) (after_program (record { 0 = k }) (program_scan plant t k state) state) state

-- The task's instances among these are scanned, one after the other; the first of these has number k (2.7.2).
abbrev pub after_task : PlantData → TaskId → ℤ → ℕ → List Instance → PlantState → PlantState
after_task plant task t k [] state = state
after_task plant task t k (instance ∷ instances) state =
    after_task plant task t (suc k) instances (after_instance plant task t k instance state)

-- after a reset of an instance: a new life begins, and its locals get their initial values (2.4.2, 2.6.2)
abbrev pub after_reset : ProgId → PlantState → PlantState
after_reset p state = record {
  changes = image.Reset p ∷ state.changes;
  instance_state = with_instance_state p.0 fresh state.instance_state;
}
