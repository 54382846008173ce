-- A scan of a task, instance by instance.
use Rattle.std.proofs.Common.{◌≡◌, subst, ℕ, suc, ◌+◌, ◌<◌, ◌≤◌, ◌^◌, arith, Bool, true, false, List, ◌∷◌, drop, length, get_or, sym, ◌∙◌, ap, cond, ℤ}
use Rattle.std.proofs.lemmas.Bool.{eq-eqb, ne_eqb}
use Rattle.std.proofs.Math.Nat.{two-pow-succ}
use Rattle.std.proofs.Math.Seq.{drop-cons}
use Rattle.sfc_base.specs.declared.ids.TaskId.{TaskId}
use Rattle.sfc_plant.specs.declared.instance.Instance.{Instance}
use Rattle.sfc_plant.specs.Plants.{PlantData}
use Rattle.sfc_instance.specs.declared.scan_end.ScanEnd.{ScanEnd}
use Rattle.sfc_instance.specs.declared.scan_end.ScanEnd.TheVariants.{Ran, Faulted, Skipped}
use Rattle.sfc_instances.specs.declared.bits.Bits.{Bits}
use Rattle.sfc_instances.specs.declared.instances.Instances.{Instances}
use Rattle.sfc_instances.specs.Agreement.{InstancesAgree}
use Rattle.sfc_instances.specs.PlantState.{PlantState, program_scan, after_program, after_instance, after_task}
use Rattle.sfc_instances.specs.Ends.{is_so, bit_of, instance_bit, bits_of}
use Rattle.sfc_instances.specs.Work.{program_work, instance_work, task_work}
use Rattle.sfc_instances.specs.Private.Scanning.{Follows}

-- what is left from instance k on
rest_of : (instances : List Instance) (k : ℕ) (instance : Instance) → k < length instances → instance ≡ get_or instances k instance
    → drop k instances ≡ instance ∷ drop (suc k) instances
rest_of instances k instance lt is =
    drop-cons instances k instance lt ∙ ap (λ (x : Instance). x ∷ drop (suc k) instances) (sym is)

module _ (plant : PlantData) (task : TaskId) (t : ℤ) (k : ℕ) (instance : Instance) (lt : k < length plant.instances)
    (is : instance ≡ get_or plant.instances k instance) where
  task_step : (now : PlantState) → after_task plant task t (suc k) (drop (suc k) plant.instances) (after_instance plant task t k instance now)
      ≡ after_task plant task t k (drop k plant.instances) now
  task_step now =
      sym (ap (λ (xs : List Instance). after_task plant task t k xs now) (rest_of plant.instances k instance lt is))

  bits_step : (how : ScanEnd) (now : PlantState) → instance_bit how plant task t k instance now
      + bits_of how plant task t (suc k) (drop (suc k) plant.instances) (after_instance plant task t k instance now)
      ≡ bits_of how plant task t k (drop k plant.instances) now
  bits_step how now =
      sym (ap (λ (xs : List Instance). bits_of how plant task t k xs now) (rest_of plant.instances k instance lt is))

  -- one instance further, with its bits
  step : (state : PlantState) (instances new : Instances) (bits more : Bits) (h : Follows plant task t state k instances bits)
      → InstancesAgree plant new (after_instance plant task t k instance h.now)
      → more.ran.bits ≡ bits.ran.bits + instance_bit Ran plant task t k instance h.now
      → more.faulted.bits ≡ bits.faulted.bits + instance_bit Faulted plant task t k instance h.now
      → more.skipped.bits ≡ bits.skipped.bits + instance_bit Skipped plant task t k instance h.now
      → Follows plant task t state (suc k) new more
  step state instances new bits more h agrees ran faulted skipped = record {
    now = after_instance plant task t k instance h.now;
    agrees = agrees;
    rest = task_step h.now ∙ h.rest;
    ran = omega (arith, ran, h.ran, bits_step Ran h.now);
    faulted = omega (arith, faulted, h.faulted, bits_step Faulted h.now);
    skipped = omega (arith, skipped, h.skipped, bits_step Skipped h.now);
  }

  own : instance.task.0 ≡ task.0 → (how : ScanEnd) (now : PlantState)
      → instance_bit how plant task t k instance now ≡ bit_of how k (program_scan plant t k now).scan_end
  own e how now =
      ap (λ (b : Bool). cond b (bit_of how k (program_scan plant t k now).scan_end) 0) (eq-eqb instance.task.0 task.0 e)

  other : (instance.task.0 ≡ task.0 → ⊥) → (how : ScanEnd) (now : PlantState) → instance_bit how plant task t k instance now ≡ 0
  other e how now =
      ap (λ (b : Bool). cond b (bit_of how k (program_scan plant t k now).scan_end) 0) (ne_eqb instance.task.0 task.0 e)

  -- an instance of another task
  pub follows_passed : (state : PlantState) (instances : Instances) (bits : Bits) → (instance.task.0 ≡ task.0 → ⊥)
      → Follows plant task t state k instances bits → Follows plant task t state (suc k) instances bits
  follows_passed state instances bits e h =
      let same : h.now ≡ after_instance plant task t k instance h.now =
      sym (ap (λ (b : Bool). cond b (after_program (record { 0 = k }) (program_scan plant t k h.now) h.now) h.now)
      (ne_eqb instance.task.0 task.0 e)) in
      step state instances instances bits bits h (subst (λ (x : PlantState). InstancesAgree plant instances x) same h.agrees)
      (omega (arith, other e Ran h.now)) (omega (arith, other e Faulted h.now)) (omega (arith, other e Skipped h.now))

  -- an instance of the task
  pub follows_scanned : (state : PlantState) (instances new : Instances) (bits more : Bits) (scan_end : ScanEnd) → instance.task.0 ≡ task.0
      → ((now : PlantState) → InstancesAgree plant instances now → scan_end ≡ (program_scan plant t k now).scan_end)
      → ((now : PlantState) → InstancesAgree plant instances now
      → InstancesAgree plant new (after_program (record { 0 = k }) (program_scan plant t k now) now))
      → more.ran.bits ≡ bits.ran.bits + bit_of Ran k scan_end → more.faulted.bits ≡ bits.faulted.bits + bit_of Faulted k scan_end
      → more.skipped.bits ≡ bits.skipped.bits + bit_of Skipped k scan_end
      → Follows plant task t state k instances bits → Follows plant task t state (suc k) new more
  follows_scanned state instances new bits more scan_end e ends agrees_on ran faulted skipped h =
      let now : PlantState = h.now in
      let done : after_program (record { 0 = k }) (program_scan plant t k now) now ≡ after_instance plant task t k instance now =
      sym (ap (λ (b : Bool). cond b (after_program (record { 0 = k }) (program_scan plant t k now) now) now)
      (eq-eqb instance.task.0 task.0 e)) in
      let bit = λ (how : ScanEnd). ap (bit_of how k) (ends now h.agrees) ∙ sym (own e how now) in
      step state instances new bits more h (subst (λ (x : PlantState). InstancesAgree plant new x) done (agrees_on now h.agrees))
      (ran ∙ ap (λ (n : ℕ). bits.ran.bits + n) (bit Ran)) (faulted ∙ ap (λ (n : ℕ). bits.faulted.bits + n) (bit Faulted))
      (skipped ∙ ap (λ (n : ℕ). bits.skipped.bits + n) (bit Skipped))

-- ---- bits

bit_small : (k : ℕ) (b : Bool) → cond b (2 ^ k) 0 ≤ 2 ^ k
bit_small k true = omega arith
bit_small k false = omega arith

-- bit k is set at most, and none beyond
pub bits_below : (k : ℕ) (how scan_end : ScanEnd) (old new : ℕ) → old < 2 ^ k → new ≡ old + bit_of how k scan_end → new < 2 ^ (suc k)
bits_below k how scan_end old new lt e = omega (arith, bit_small k (is_so how scan_end), two-pow-succ k)

pub bits_still : (k old : ℕ) → old < 2 ^ k → old < 2 ^ (suc k)
bits_still k old lt = omega (arith, two-pow-succ k)

-- ---- ticks

module _ (plant : PlantData) (task : TaskId) (k : ℕ) (instance : Instance) (lt : k < length plant.instances)
    (is : instance ≡ get_or plant.instances k instance) where
  work_step : instance_work plant task k instance + task_work plant task (suc k) (drop (suc k) plant.instances)
      ≡ task_work plant task k (drop k plant.instances)
  work_step = sym (ap (λ (xs : List Instance). task_work plant task k xs) (rest_of plant.instances k instance lt is))

  pub work_scanned : (before old new : ℕ) → instance.task.0 ≡ task.0 → new ≤ old + program_work plant (record { 0 = k })
      → old + task_work plant task k (drop k plant.instances) ≤ before
      → new + task_work plant task (suc k) (drop (suc k) plant.instances) ≤ before
  work_scanned before old new e le h =
      let own : instance_work plant task k instance ≡ program_work plant (record { 0 = k }) =
      ap (λ (b : Bool). cond b (program_work plant (record { 0 = k })) 0) (eq-eqb instance.task.0 task.0 e) in
      omega (arith, own, work_step)

  pub work_passed : (before old : ℕ) → old + task_work plant task k (drop k plant.instances) ≤ before
      → old + task_work plant task (suc k) (drop (suc k) plant.instances) ≤ before
  work_passed before old h = omega (arith, work_step)
