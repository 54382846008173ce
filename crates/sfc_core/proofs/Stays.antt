-- An instance with a fault is passed over.
use Rattle.std.proofs.Common.{◌≡◌, ◌≢◌, ◌∙◌, inl, inr, ℕ, suc, Bool, cond, List, [], ◌∷◌, Some, is_some, refl, sym, subst, ap, ℤ}
use Rattle.std.proofs.lemmas.Bool.Decides.{eqb_tells}
use Rattle.sfc_base.specs.declared.ids.ProgId.{ProgId}
use Rattle.sfc_base.specs.declared.ids.TaskId.{TaskId}
use Rattle.sfc_plant.specs.declared.instance.Instance.{Instance}
use Rattle.sfc_plant.specs.Plants.{PlantData}
use Rattle.sfc_instances.specs.sfc_instance.declared.scan_fault.ScanFault.{ScanFault}
use Rattle.sfc_instances.specs.sfc_instance.Life.{InstanceState, fresh}
use Rattle.sfc_events.specs.declared.event.Event.{Event}
use Rattle.sfc_events.specs.declared.event.Event.TheVariants.{Scan, ForcedScan, Input, Force, Release, Reset}
use Rattle.sfc_instances.specs.PlantState.{PlantState, with_instance_state, after_program, program_scan, after_instance, after_task}
use Rattle.sfc_instances.proofs.ScanEnd.{end_tells}
use Rattle.sfc_instances.proofs.InstanceState.{instance_state_there}
use Rattle.sfc_core.specs.PlantState.{after_event}

module _ (plant : PlantData) (t : ℤ) (fault : ScanFault) where
  -- a scan of the instance itself
  scanned_over : (k : ℕ) (state : PlantState) → (state.instance_state k).fault ≡ Some fault
      → (program_scan plant t k state).instance_state ≡ state.instance_state k
  unfolding program_scan
  scanned_over k state e =
      let tells = end_tells plant (record { 0 = k }) (state.instance_state k) state.changes t (state.instance_state k).fault in
      tells.stands (tells.skips.1 (ap is_some e))

  -- a scan of one that is the task's own
  own_over : (m k : ℕ) (state : PlantState) → (state.instance_state m).fault ≡ Some fault
      → (after_program (record { 0 = k }) (program_scan plant t k state) state).instance_state m ≡ state.instance_state m
  own_over m k state e =
      elim (eqb_tells m k) as (λ _. with_instance_state k (program_scan plant t k state).instance_state state.instance_state m ≡ state.instance_state m) [
        | inl w ↦
            ap (λ (b : Bool). cond b (program_scan plant t k state).instance_state (state.instance_state m)) w.0
            ∙ scanned_over k state (subst (λ (n : ℕ). (state.instance_state n).fault ≡ Some fault) w.1 e)
            ∙ ap state.instance_state (sym w.1)
        | inr w ↦ ap (λ (b : Bool). cond b (program_scan plant t k state).instance_state (state.instance_state m)) w.0
      ]

  one_over : (task : TaskId) (m k : ℕ) (instance : Instance) (state : PlantState) → (state.instance_state m).fault ≡ Some fault
      → (after_instance plant task t k instance state).instance_state m ≡ state.instance_state m
  one_over task m k instance state e =
      let after : PlantState = after_program (record { 0 = k }) (program_scan plant t k state) state in
      elim (eqb_tells instance.task.0 task.0) as (λ _. (after_instance plant task t k instance state).instance_state m ≡ state.instance_state m) [
        | inl w ↦ ap (λ (b : Bool). (cond b after state).instance_state m) w.0 ∙ own_over m k state e
        | inr w ↦ ap (λ (b : Bool). (cond b after state).instance_state m) w.0
      ]

  task_over : (task : TaskId) (m k : ℕ) (instances : List Instance) (state : PlantState) → (state.instance_state m).fault ≡ Some fault
      → (after_task plant task t k instances state).instance_state m ≡ state.instance_state m
  task_over task m k [] state e = refl
  task_over task m k (instance ∷ instances) state e =
      let one = one_over task m k instance state e in
      task_over task m (suc k) instances (after_instance plant task t k instance state) (ap (λ (s : InstanceState). s.fault) one ∙ e) ∙ one

  -- whatever comes but its reset
  pub stays : (event : Event) (p : ProgId) (state : PlantState) → (state.instance_state p.0).fault ≡ Some fault → event ≢ Reset p
      → (after_event plant event t state).instance_state p.0 ≡ state.instance_state p.0
  stays (Scan task) p state e other = task_over task p.0 0 plant.instances state e
  stays (ForcedScan task) p state e other = task_over task p.0 0 plant.instances state e
  stays (Input id v) p state e other = refl
  stays (Force id v) p state e other = refl
  stays (Release id) p state e other = refl
  stays (Reset q) p state e other =
      instance_state_there q.0 fresh state.instance_state p.0
      (λ same. other (ap (λ (n : ℕ). Reset (record { 0 = n })) (sym same)))
