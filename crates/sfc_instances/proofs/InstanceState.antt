-- How instances stand after scans of others.
use Rattle.std.proofs.Common.{◌≡◌, ◌≢◌, inl, inr, ℕ, suc, ◌+◌, arith, Bool, cond, List, [], ◌∷◌, slice_get, Some, refl, sym, ◌∙◌, ap, ℤ}
use Rattle.std.proofs.lemmas.Bool.{eq-eqb, ne_eqb}
use Rattle.std.proofs.lemmas.Bool.Decides.{eqb_tells}
use Rattle.sfc_base.specs.declared.ids.TaskId.{TaskId}
use Rattle.sfc_plant.specs.declared.instance.Instance.{Instance}
use Rattle.sfc_plant.specs.Plants.{PlantData}
use Rattle.sfc_instance.specs.Life.{InstanceState}
use Rattle.sfc_instances.specs.PlantState.{PlantState, with_instance_state, after_program, program_scan, after_instance, after_task}

-- the instance of which the state was replaced
pub instance_state_here : (k : ℕ) (instance_state : InstanceState) (others : ℕ → InstanceState) → with_instance_state k instance_state others k ≡ instance_state
instance_state_here k instance_state others = ap (λ (b : Bool). cond b instance_state (others k)) (eq-eqb k k refl)

-- another
pub instance_state_there : (k : ℕ) (instance_state : InstanceState) (others : ℕ → InstanceState) (j : ℕ) → j ≢ k → with_instance_state k instance_state others j ≡ others j
instance_state_there k instance_state others j ne = ap (λ (b : Bool). cond b instance_state (others j)) (ne_eqb j k ne)

module _ (plant : PlantData) (task : TaskId) (t : ℤ) (m : ℕ) where
  -- instance m is not the one, if that is scanned
  left_by_instance : (k : ℕ) (instance : Instance) (state : PlantState) → (k ≡ m → instance.task.0 ≢ task.0)
      → (after_instance plant task t k instance state).instance_state m ≡ state.instance_state m
  left_by_instance k instance state other =
      elim (eqb_tells instance.task.0 task.0) as (λ _. (after_instance plant task t k instance state).instance_state m ≡ state.instance_state m) [
        | inl w ↦
            ap (λ (b : Bool). (cond b (after_program (record { 0 = k }) (program_scan plant t k state) state) state).instance_state m) w.0
            ∙ instance_state_there k (program_scan plant t k state).instance_state state.instance_state m (λ e. other (sym e) w.1)
        | inr w ↦
            ap (λ (b : Bool). (cond b (after_program (record { 0 = k }) (program_scan plant t k state) state) state).instance_state m) w.0
      ]

  -- none of these instances, of which the first has number k, is instance m and of the task
  pub left_by_task : (k : ℕ) (instances : List Instance) (state : PlantState)
      → ((n : ℕ) (instance : Instance) → slice_get instances n ≡ Some instance → k + n ≡ m → instance.task.0 ≢ task.0)
      → (after_task plant task t k instances state).instance_state m ≡ state.instance_state m
  left_by_task k [] state other = refl
  left_by_task k (instance ∷ instances) state other =
      left_by_task (suc k) instances (after_instance plant task t k instance state)
      (λ n i is e. other (suc n) i is (omega (arith, e)))
      ∙ left_by_instance k instance state (λ e. other 0 instance refl (omega (arith, e)))
