-- What is kept is the past of the history, and what is answered goes by it.
use denote.Struct.Props.{props}
use Rattle.std.proofs.Common.{◌≡◌, inl, inr, ℕ, suc, ◌<◌, ◌≤◌, arith, not, Bool, true, false, cond, ◌&&◌, List, [], ◌∷◌, ◌++◌, length}
use Rattle.std.proofs.Common.{refl, sym, ◌∙◌, ap, ℤ, Option, Some, None}
use Rattle.std.specs.Prelude.{nat_lt, is_none}
use Rattle.std.proofs.lemmas.Bool.{cases_lt}
use mathlib.Core.Logic.{∥∥₁_elim}
use Rattle.sfc_instances.specs.sfc_tables.Tables.{tables_of}
use Rattle.sfc_base.specs.declared.ids.ProgId.{ProgId}
use Rattle.sfc_base.specs.declared.ids.TaskId.{TaskId}
use Rattle.sfc_base.specs.declared.ids.VarId.{VarId}
use Rattle.sfc_plant.specs.Finding.{chart_of}
use Rattle.sfc_plant.specs.Plants.{PlantData}
use Rattle.sfc_plant.specs.Sound.{IsPlant}
use Rattle.sfc_instances.specs.sfc_image.Changes.{Stored, Forced, Released}
use Rattle.sfc_instances.specs.sfc_image.Past.{image_past}
use Rattle.sfc_instances.specs.sfc_image.Values.{variable_count}
use Rattle.sfc_instances.proofs.of_sfc_image.Pasts as image
use Rattle.sfc_instances.specs.sfc_instance.Past.{instance_past}
use Rattle.sfc_instances.specs.sfc_instance.declared.scan_end.ScanEnd.TheVariants.{Ran, Faulted, Skipped}
use Rattle.sfc_tasks.specs.Calls.{Call, Elapsed, Rose, Served, single_of}
use Rattle.sfc_tasks.specs.Releases.{interval_of, waits_since}
use Rattle.sfc_tasks.specs.Multiples.{next_release}
use Rattle.sfc_tasks.specs.Pick.{picked}
use Rattle.sfc_tasks.specs.Past.{tasks_past}
use Rattle.sfc_tasks.specs.declared.table.TaskTable.{TaskTable}
use Rattle.sfc_tasks.proofs.Pasts as task_table
use Rattle.sfc_events.specs.declared.event.Event.{Event}
use Rattle.sfc_events.specs.declared.event.Event.TheVariants.{Scan, ForcedScan, Input, Force, Release, Reset}
use Rattle.sfc_events.specs.declared.event.Outcome.{Outcome}
use Rattle.sfc_events.specs.declared.event.Outcome.TheVariants.{Scanned}
use Rattle.sfc_events.specs.InstanceSets.{set_of}
use Rattle.sfc_events.specs.declared.refusal.Refusal.{Refusal}
use Rattle.sfc_events.specs.declared.refusal.Refusal.TheVariants.{UnknownTask, NotDue}
use Rattle.sfc_events.specs.History.{TimedEvent, History, last_instant}
use Rattle.sfc_instances.specs.PlantState.{PlantState}
use Rattle.sfc_instances.specs.Past.{instances_past}
use Rattle.sfc_instances.specs.declared.instances.Instances.{Instances}
use Rattle.sfc_instances.specs.Agreement.{AreInstancesOf}
use Rattle.sfc_instances.proofs.Pasts as all_instances
use Rattle.sfc_core.specs.declared.resource.Resource.{Resource}
use Rattle.sfc_core.specs.Agreement.{Agrees, plant_of}
use Rattle.sfc_core.specs.PlantState.{after_event, state_of}
use Rattle.sfc_core.specs.Due.{singles_of, with_rise, with_rises, with_service, calls_of, calls_at}
use Rattle.sfc_core.specs.Answers.{value_of, forced_of, instance_state_of, overruns_of}
use Rattle.sfc_core.specs.Verdict.{refused_if, or_then, instant_refusal, task_refusal, of_image, event_refusal, yield_to}
use Rattle.sfc_core.specs.Verdict.{turn_refusal, first_refusal, scan_answer, answer, verdict_by, verdict}
use Rattle.sfc_core.specs.Past.{history_past, past_kept, past_in}
use Rattle.sfc_core.specs.declared.opening.Opening.{Opening}
use Rattle.sfc_core.specs.Openings.{IsOpeningFor, past_of}
use Rattle.sfc_core.specs.Keeping.{Keeps}

-- ---- what is kept is the past

module _ (plant : PlantData) (instances : Instances) (tasks : TaskTable) (last : ℤ) where
  pub parts_keep : (h : History) → AreInstancesOf plant instances → Keeps plant instances tasks last h
      → past_kept plant instances tasks last ≡ history_past plant h
  parts_keep h whole k =
      let instances_agree = all_instances.keeps_past plant instances (state_of plant h) whole k.instances_agree in
      let tasked = task_table.keeps_past plant.tasks tasks (calls_of plant h) k.tasked in
      (λ i. record { last = k.instant i; instances = instances_agree i; tasks = tasked i })

  parts_same : (h g : History) → AreInstancesOf plant instances → Keeps plant instances tasks last h
      → history_past plant h ≡ history_past plant g → Keeps plant instances tasks last g
  parts_same h g whole k e = record {
    instant = k.instant ∙ ap (λ p. p.last) e;
    instances_agree = all_instances.same_past plant instances (state_of plant h) (state_of plant g) whole k.instances_agree (ap (λ p. p.instances) e);
    tasked = task_table.same_past plant.tasks tasks (calls_of plant h) (calls_of plant g) k.tasked (ap (λ p. p.tasks) e);
  }

  -- in one way at most
  parts_prop : (h : History) → IsProp (Keeps plant instances tasks last h)
  parts_prop h = hlevel (props, all_instances.agrees_prop, task_table.agrees_prop)

  -- what some history leaves is what each history of this past leaves
  pub parts_agree : (g : History) → AreInstancesOf plant instances → ∥ ((h : History) × Keeps plant instances tasks last h) ∥₁
      → past_kept plant instances tasks last ≡ history_past plant g → Keeps plant instances tasks last g
  parts_agree g whole some e =
      ∥∥₁_elim some (parts_prop g) (λ x. parts_same x.0 g whole x.1 (sym (parts_keep x.0 whole x.1) ∙ e))

pub keeps_past : (resource : Resource) (h : History) → Agrees resource h → past_in resource ≡ history_past (plant_of resource) h
unfolding Agrees plant_of past_in
keeps_past resource h k = parts_keep resource.plant resource.instances resource.tasks resource.last h resource.whole k

pub past_agrees : (resource : Resource) (h : History) → past_in resource ≡ history_past (plant_of resource) h → Agrees resource h
unfolding Agrees plant_of past_in
past_agrees resource h e = parts_agree resource.plant resource.instances resource.tasks resource.last h resource.whole resource.agrees e

pub opening_agrees : (plant : PlantData) (opening : Opening) (h : History) → IsOpeningFor plant opening
    → past_of plant opening ≡ history_past plant h → Keeps plant opening.instances opening.tasks opening.last h
unfolding IsOpeningFor past_of
opening_agrees plant opening h made e = parts_agree plant opening.instances opening.tasks opening.last h made.whole made.some e

abbrev waits_for_turn : Event → Bool
waits_for_turn (Scan task) = true
waits_for_turn _ = false

-- ---- what the tasks are told

module _ (plant : PlantData) where
  rise_by : (t : ℤ) (k : ℕ) (x y : Bool) (c d : List Call) → tasks_past plant.tasks c ≡ tasks_past plant.tasks d
      → tasks_past plant.tasks (with_rise t k x y c) ≡ tasks_past plant.tasks (with_rise t k x y d)
  rise_by t k x y c d e = by (not x && y) where
    by : (b : Bool) → tasks_past plant.tasks (cond b (Rose (record { 0 = k }) t ∷ c) c)
        ≡ tasks_past plant.tasks (cond b (Rose (record { 0 = k }) t ∷ d) d)
    by true = task_table.past_next plant.tasks (Rose (record { 0 = k }) t) c d e
    by false = e

  rises_by : (t : ℤ) (k : ℕ) (before after : List Bool) (c d : List Call) → tasks_past plant.tasks c ≡ tasks_past plant.tasks d
      → tasks_past plant.tasks (with_rises t k before after c) ≡ tasks_past plant.tasks (with_rises t k before after d)
  rises_by t k [] after c d e = e
  rises_by t k (x ∷ before) [] c d e = e
  rises_by t k (x ∷ before) (y ∷ after) c d e =
      rises_by t (suc k) before after (with_rise t k x y c) (with_rise t k x y d) (rise_by t k x y c d e)

  service_by : (event : Event) (c d : List Call) → tasks_past plant.tasks c ≡ tasks_past plant.tasks d
      → tasks_past plant.tasks (with_service event c) ≡ tasks_past plant.tasks (with_service event d)
  service_by (Scan task) c d e = task_table.past_next plant.tasks (Served task) c d e
  service_by (ForcedScan task) c d e = task_table.past_next plant.tasks (Served task) c d e
  service_by (Input id v) c d e = e
  service_by (Force id v) c d e = e
  service_by (Release id) c d e = e
  service_by (Reset p) c d e = e

-- ---- one event more

module _ (plant : PlantData) (sound : IsPlant plant) where
  event_by : (event : Event) (t : ℤ) (one two : PlantState) → instances_past plant one ≡ instances_past plant two
      → instances_past plant (after_event plant event t one) ≡ instances_past plant (after_event plant event t two)
  event_by (Scan task) t one two e = all_instances.task_by plant task t sound one two e
  event_by (ForcedScan task) t one two e = all_instances.task_by plant task t sound one two e
  event_by (Input id v) t one two e = all_instances.change_by plant (Stored id v) one two e
  event_by (Force id v) t one two e = all_instances.change_by plant (Forced id v) one two e
  event_by (Release id) t one two e = all_instances.change_by plant (Released id) one two e
  event_by (Reset p) t one two e = all_instances.reset_by plant p one two e

  singles_by : (h g : History) → instances_past plant (state_of plant h) ≡ instances_past plant (state_of plant g)
      → singles_of plant h ≡ singles_of plant g
  unfolding singles_of
  singles_by h g e = all_instances.singles_by plant (state_of plant h) (state_of plant g) sound e

  state_next : (timed_event : TimedEvent) (h g : History) → instances_past plant (state_of plant h) ≡ instances_past plant (state_of plant g)
      → instances_past plant (state_of plant (timed_event ∷ h)) ≡ instances_past plant (state_of plant (timed_event ∷ g))
  unfolding state_of
  state_next timed_event h g e = event_by timed_event.0 timed_event.1 (state_of plant h) (state_of plant g) e

  calls_next : (timed_event : TimedEvent) (h g : History) → history_past plant h ≡ history_past plant g
      → tasks_past plant.tasks (calls_of plant (timed_event ∷ h)) ≡ tasks_past plant.tasks (calls_of plant (timed_event ∷ g))
  unfolding calls_of
  calls_next timed_event h g same =
      let before = singles_by h g (ap (λ p. p.instances) same) in
      let after = singles_by (timed_event ∷ h) (timed_event ∷ g) (state_next timed_event h g (ap (λ p. p.instances) same)) in
      let elapsed_call : Call = Elapsed timed_event.1 (singles_of plant g) in
      (λ i. tasks_past plant.tasks (with_rises timed_event.1 0 (before i) (after i)
      (with_service timed_event.0 (Elapsed timed_event.1 (before i) ∷ calls_of plant h))))
      ∙ rises_by plant timed_event.1 0 (singles_of plant g) (singles_of plant (timed_event ∷ g))
      (with_service timed_event.0 (elapsed_call ∷ calls_of plant h)) (with_service timed_event.0 (elapsed_call ∷ calls_of plant g))
      (service_by plant timed_event.0 (elapsed_call ∷ calls_of plant h) (elapsed_call ∷ calls_of plant g)
      (task_table.past_next plant.tasks elapsed_call (calls_of plant h) (calls_of plant g) (ap (λ p. p.tasks) same)))

  pub past_next : (timed_event : TimedEvent) (h g : History) → history_past plant h ≡ history_past plant g
      → history_past plant (timed_event ∷ h) ≡ history_past plant (timed_event ∷ g)
  past_next timed_event h g same =
      let state = state_next timed_event h g (ap (λ p. p.instances) same) in
      let calls = calls_next timed_event h g same in
      (λ i. record { last = timed_event.1; instances = state i; tasks = calls i })

  pub past_cut : (h g later : History) → history_past plant h ≡ history_past plant g
      → history_past plant (later ++ h) ≡ history_past plant (later ++ g)
  past_cut h g [] e = e
  past_cut h g (timed_event ∷ later) e = past_next timed_event (later ++ h) (later ++ g) (past_cut h g later e)

  -- ---- the answer to an event

  refusal_by : (event : Event) (h g : History) → instances_past plant (state_of plant h) ≡ instances_past plant (state_of plant g)
      → event_refusal plant (state_of plant h).changes event ≡ event_refusal plant (state_of plant g).changes event
  refusal_by (Scan task) h g e = refl
  refusal_by (ForcedScan task) h g e = refl
  refusal_by (Input id v) h g e = refl
  refusal_by (Force id v) h g e = refl
  refusal_by (Release id) h g e =
      ap of_image (image.release_by plant (state_of plant h).changes (state_of plant g).changes (ap (λ p. p.variables) e) id)
  refusal_by (Reset p) h g e = refl

  calls_by : (t : ℤ) (h g : History) → history_past plant h ≡ history_past plant g
      → tasks_past plant.tasks (calls_at plant h t) ≡ tasks_past plant.tasks (calls_at plant g t)
  calls_by t h g same =
      let before = singles_by h g (ap (λ p. p.instances) same) in
      (λ i. tasks_past plant.tasks (Elapsed t (before i) ∷ calls_of plant h))
      ∙ task_table.past_next plant.tasks (Elapsed t (singles_of plant g)) (calls_of plant h) (calls_of plant g) (ap (λ p. p.tasks) same)

  turn_by : (task : TaskId) (t : ℤ) (h g : History) → task.0 < length plant.tasks → history_past plant h ≡ history_past plant g
      → turn_refusal plant.tasks (singles_of plant h) (calls_at plant h t) (Scan task) t
      ≡ turn_refusal plant.tasks (singles_of plant g) (calls_at plant g t) (Scan task) t
  unfolding turn_refusal
  turn_by task t h g lt same =
      let singles = singles_by h g (ap (λ p. p.instances) same) in
      let same_calls = calls_by t h g same in
      let waits = task_table.waits_by plant.tasks (calls_at plant h t) (calls_at plant g t) same_calls task.0 lt in
      let first = task_table.picked_by plant.tasks (calls_at plant h t) (calls_at plant g t) same_calls in
      (λ i. or_then
      (refused_if (is_none (waits i)) (NotDue (next_release (interval_of plant.tasks task.0) (single_of (singles i) task.0) t)))
      (yield_to task (first i)))

  scanned_by : (event : Event) (task : TaskId) (t : ℤ) (h g : History) → task.0 < length plant.tasks
      → history_past plant h ≡ history_past plant g → scan_answer plant h event task t ≡ scan_answer plant g event task t
  unfolding scan_answer
  scanned_by event task t h g lt same =
      let e = ap (λ p. p.instances) same in
      let ran = all_instances.bits_by plant task t sound Ran (state_of plant h) (state_of plant g) e in
      let faulted = all_instances.bits_by plant task t sound Faulted (state_of plant h) (state_of plant g) e in
      let skipped = all_instances.bits_by plant task t sound Skipped (state_of plant h) (state_of plant g) e in
      let late = task_table.overruns_by plant.tasks (calls_of plant ((event, t) ∷ h)) (calls_of plant ((event, t) ∷ g))
      (calls_next (event, t) h g same) task.0 lt in
      (λ i. Scanned (set_of (ran i)) (set_of (faulted i)) (set_of (skipped i)) (late i))

  -- where the refusal and the answer are the same
  joined : (event : Event) (t : ℤ) (h g : History) → history_past plant h ≡ history_past plant g
      → turn_refusal plant.tasks (singles_of plant h) (calls_at plant h t) event t
      ≡ turn_refusal plant.tasks (singles_of plant g) (calls_at plant g t) event t
      → answer plant h event t ≡ answer plant g event t → verdict plant h event t ≡ verdict plant g event t
  unfolding first_refusal
  joined event t h g same turn answers =
      let last = ap (λ p. p.last) same in
      let named = refusal_by event h g (ap (λ p. p.instances) same) in
      (λ i. verdict_by (or_then (instant_refusal (last i) t) (or_then (named i) (turn i))) (answers i))

  -- where there is no such task
  refused : (first : Option Refusal) (x y : Option Refusal) (o u : Outcome)
      → verdict_by (or_then first (or_then (Some UnknownTask) x)) o ≡ verdict_by (or_then first (or_then (Some UnknownTask) y)) u
  refused None x y o u = refl
  refused (Some f) x y o u = refl

  unknown : (event : Event) (t : ℤ) (h g : History) → history_past plant h ≡ history_past plant g
      → event_refusal plant (state_of plant h).changes event ≡ Some UnknownTask
      → event_refusal plant (state_of plant g).changes event ≡ Some UnknownTask → verdict plant h event t ≡ verdict plant g event t
  unfolding first_refusal
  unknown event t h g same x y =
      let last = ap (λ p. p.last) same in
      ap (λ r. verdict_by (or_then (instant_refusal (last_instant h) t)
      (or_then r (turn_refusal plant.tasks (singles_of plant h) (calls_at plant h t) event t))) (answer plant h event t)) x
      ∙ refused (instant_refusal (last_instant h) t) (turn_refusal plant.tasks (singles_of plant h) (calls_at plant h t) event t)
      (turn_refusal plant.tasks (singles_of plant g) (calls_at plant g t) event t) (answer plant h event t) (answer plant g event t)
      ∙ ap (λ l. verdict_by (or_then (instant_refusal l t)
      (or_then (Some UnknownTask) (turn_refusal plant.tasks (singles_of plant g) (calls_at plant g t) event t))) (answer plant g event t)) last
      ∙ sym (ap (λ r. verdict_by (or_then (instant_refusal (last_instant g) t)
      (or_then r (turn_refusal plant.tasks (singles_of plant g) (calls_at plant g t) event t))) (answer plant g event t)) y)

  free : (event : Event) (t : ℤ) (s s' : List Bool) (c c' : List Call) → waits_for_turn event ≡ false
      → turn_refusal plant.tasks s c event t ≡ turn_refusal plant.tasks s' c' event t
  unfolding turn_refusal
  free (Scan task) t s s' c c' e = absurd cc
  free (ForcedScan task) t s s' c c' e = refl
  free (Input id v) t s s' c c' e = refl
  free (Force id v) t s s' c c' e = refl
  free (Release id) t s s' c c' e = refl
  free (Reset p) t s s' c c' e = refl

  no_task : (task : TaskId) → length plant.tasks ≤ task.0 → task_refusal plant task ≡ Some UnknownTask
  no_task task le = let e : nat_lt task.0 (length plant.tasks) ≡ false = grind arith in rw e refl

  pub verdict_cut : (event : Event) (t : ℤ) (h g : History) → history_past plant h ≡ history_past plant g
      → verdict plant h event t ≡ verdict plant g event t
  verdict_cut (Scan task) t h g same = elim (cases_lt task.0 (length plant.tasks)) [
    | inl lt ↦ joined (Scan task) t h g same (turn_by task t h g lt same) (scanned_by (Scan task) task t h g lt same)
    | inr le ↦ unknown (Scan task) t h g same (no_task task le) (no_task task le)
  ]
  verdict_cut (ForcedScan task) t h g same = elim (cases_lt task.0 (length plant.tasks)) [
    | inl lt ↦ joined (ForcedScan task) t h g same (free (ForcedScan task) t (singles_of plant h) (singles_of plant g) (calls_at plant h t) (calls_at plant g t) refl) (scanned_by (ForcedScan task) task t h g lt same)
    | inr le ↦ unknown (ForcedScan task) t h g same (no_task task le) (no_task task le)
  ]
  verdict_cut (Input id v) t h g same = joined (Input id v) t h g same
      (free (Input id v) t (singles_of plant h) (singles_of plant g) (calls_at plant h t) (calls_at plant g t) refl) refl
  verdict_cut (Force id v) t h g same = joined (Force id v) t h g same
      (free (Force id v) t (singles_of plant h) (singles_of plant g) (calls_at plant h t) (calls_at plant g t) refl) refl
  verdict_cut (Release id) t h g same = joined (Release id) t h g same
      (free (Release id) t (singles_of plant h) (singles_of plant g) (calls_at plant h t) (calls_at plant g t) refl) refl
  verdict_cut (Reset p) t h g same = joined (Reset p) t h g same
      (free (Reset p) t (singles_of plant h) (singles_of plant g) (calls_at plant h t) (calls_at plant g t) refl) refl

-- ---- the answers to questions

module _ (plant : PlantData) (sound : IsPlant plant) (h g : History) (same : history_past plant h ≡ history_past plant g) where
  abbrev alike : image_past plant (state_of plant h).changes ≡ image_past plant (state_of plant g).changes
  alike = ap (λ p. p.instances.variables) same

  pub value_by : (id : VarId) → id.0 < variable_count plant → value_of plant h id ≡ value_of plant g id
  value_by id lt = image.value_by plant (state_of plant h).changes (state_of plant g).changes alike id.0 lt

  pub force_by : (id : VarId) → id.0 < variable_count plant → forced_of plant h id ≡ forced_of plant g id
  force_by id lt = image.forced_by plant (state_of plant h).changes (state_of plant g).changes alike id.0 lt

  pub life_by : (p : ProgId) → p.0 < length plant.instances
      → instance_past (tables_of (chart_of plant p)) (instance_state_of plant h p) ≡ instance_past (tables_of (chart_of plant p)) (instance_state_of plant g p)
  life_by p lt = (all_instances.same_tables plant (state_of plant h) (state_of plant g) (ap (λ p. p.instances) same)).programs p.0 lt

  pub waits_by : (task : TaskId) (t : ℤ) → task.0 < length plant.tasks
      → waits_since plant.tasks (calls_at plant h t) task.0 ≡ waits_since plant.tasks (calls_at plant g t) task.0
  waits_by task t lt = task_table.waits_by plant.tasks (calls_at plant h t) (calls_at plant g t) (calls_by plant sound t h g same) task.0 lt

  pub picked_by : (t : ℤ) → picked plant.tasks (calls_at plant h t) ≡ picked plant.tasks (calls_at plant g t)
  picked_by t = task_table.picked_by plant.tasks (calls_at plant h t) (calls_at plant g t) (calls_by plant sound t h g same)

  pub overruns_by : (task : TaskId) → task.0 < length plant.tasks → overruns_of plant h task ≡ overruns_of plant g task
  overruns_by task lt = task_table.overruns_by plant.tasks (calls_of plant h) (calls_of plant g) (ap (λ p. p.tasks) same) task.0 lt
