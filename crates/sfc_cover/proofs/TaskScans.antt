-- A scan of a task, instance by instance.
use Rattle.std.proofs.Common.{◌≡◌, ◌∙◌, ℕ, suc, ◌<◌, Bool, cond, List, ◌∷◌, drop, length, get_or, sym, ap, subst, ℤ}
use Rattle.std.proofs.lemmas.Bool.{eq-eqb, ne_eqb}
use Rattle.std.proofs.Math.Seq.{drop-cons}
use Rattle.sfc_base.specs.declared.ids.TaskId.{TaskId}
use Rattle.sfc_plant.specs.declared.instance.Instance.{Instance}
use Rattle.sfc_plant.specs.Plants.{PlantData}
use Rattle.sfc_replay.specs.sfc_instances.declared.instances.Instances.{Instances}
use Rattle.sfc_replay.specs.sfc_instances.Agreement.{InstancesAgree}
use Rattle.sfc_replay.specs.sfc_instances.PlantState.{PlantState, program_scan, after_program, after_instance, after_task}
use Rattle.sfc_cover.specs.Private.Scanning.{Follows}

module _ (plant : PlantData) (task : TaskId) (t : ℤ) (k : ℕ) (instance : Instance) (lt : k < length plant.instances)
    (is : instance ≡ get_or plant.instances k instance) where
  -- what is left from instance k on
  rest_of : drop k plant.instances ≡ instance ∷ drop (suc k) plant.instances
  rest_of = drop-cons plant.instances k instance lt ∙ ap (λ (x : Instance). x ∷ drop (suc k) plant.instances) (sym is)

  step : (state : PlantState) (instances new : Instances) (h : Follows plant task t state k instances)
      → InstancesAgree plant new (after_instance plant task t k instance h.now) → Follows plant task t state (suc k) new
  step state instances new h agrees = record {
    now = after_instance plant task t k instance h.now;
    agrees = agrees;
    rest = sym (ap (λ (xs : List Instance). after_task plant task t k xs h.now) rest_of) ∙ h.rest;
  }

  -- an instance of another task
  pub follows_passed : (state : PlantState) (instances : Instances) → (instance.task.0 ≡ task.0 → ⊥)
      → Follows plant task t state k instances → Follows plant task t state (suc k) instances
  follows_passed state instances e h =
      let same : h.now ≡ after_instance plant task t k instance h.now =
      sym (ap (λ (b : Bool). cond b (after_program (record { 0 = k }) (program_scan plant t k h.now) h.now) h.now)
      (ne_eqb instance.task.0 task.0 e)) in
      step state instances instances h (subst (λ (x : PlantState). InstancesAgree plant instances x) same h.agrees)

  -- an instance of the task
  pub follows_scanned : (state : PlantState) (instances new : Instances) → instance.task.0 ≡ task.0
      → ((now : PlantState) → InstancesAgree plant instances now
      → InstancesAgree plant new (after_program (record { 0 = k }) (program_scan plant t k now) now))
      → Follows plant task t state k instances → Follows plant task t state (suc k) new
  follows_scanned state instances new e agrees_on h =
      let done : after_program (record { 0 = k }) (program_scan plant t k h.now) h.now ≡ after_instance plant task t k instance h.now =
      sym (ap (λ (b : Bool). cond b (after_program (record { 0 = k }) (program_scan plant t k h.now) h.now) h.now)
      (eq-eqb instance.task.0 task.0 e)) in
      step state instances new h (subst (λ (x : PlantState). InstancesAgree plant new x) done (agrees_on h.now h.agrees))
