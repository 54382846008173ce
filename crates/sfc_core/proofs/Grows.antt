-- What events do with the variables: a scan only stores, and nothing that was done before is lost.
use Rattle.std.proofs.Common.{◌≡◌, ◌∙◌, ℕ, suc, ◌==◌, Bool, true, false, cond, List, [], ◌∷◌, ◌++◌, filter_map, slice_get, refl, sym, ap, ℤ}
use Rattle.std.proofs.Common.{Option, Some, None, Result, Ok, Err}
use Rattle.std.specs.List.{cons_option}
use Rattle.std.specs.Option.{option_map}
use Rattle.std.proofs.lemmas.List.{append_assoc}
use Rattle.sfc_expr.specs.declared.fault.Fault.{Fault}
use Rattle.sfc_base.specs.declared.value.Value.{Value}
use Rattle.sfc_base.specs.declared.references.Variable.{Variable}
use Rattle.sfc_expr.specs.Environment.{Environment}
use Rattle.sfc_expr.specs.Effect.{effect}
use Rattle.sfc_expr.specs.Trees.{Body}
use Rattle.sfc_base.specs.declared.ids.ActionId.{ActionId}
use Rattle.sfc_instances.specs.sfc_tables.Tables.{Tabled, tables_of}
use Rattle.sfc_plant.specs.declared.association.Target.{Target}
use Rattle.sfc_plant.specs.declared.association.Target.TheVariants.{Boolean, Declared}
use Rattle.sfc_instances.specs.sfc_action.ActionControl as control
use Rattle.sfc_base.specs.declared.ids.ProgId.{ProgId}
use Rattle.sfc_base.specs.declared.ids.TaskId.{TaskId}
use Rattle.sfc_plant.specs.declared.instance.Instance.{Instance}
use Rattle.sfc_plant.specs.Plants.{PlantData}
use Rattle.sfc_instances.specs.sfc_image.Changes.{Change, Stored, Forced, Released, Reset}
use Rattle.sfc_instances.specs.sfc_image.Values.{forced_value}
use Rattle.sfc_instances.specs.sfc_image.Environments.{number_of}
use Rattle.sfc_instances.specs.sfc_image.BodyFaults.{statements_done}
use Rattle.sfc_instances.specs.sfc_image.Bodies.{stored_to, left_in, left_by, changes_in, assignment, variables_of}
use Rattle.sfc_instances.proofs.of_sfc_image.Written.{forced_there, released_there}
use Rattle.sfc_instances.specs.sfc_instance.declared.scan_fault.ScanFault.{ScanFault}
use Rattle.sfc_instances.specs.sfc_instance.Life.{Life, Row, PlacedFault, InstanceState, control_scans}
use Rattle.sfc_plant.specs.Finding.{chart_of}
use Rattle.sfc_instances.specs.sfc_instance.ProgramScan.{and_then, body_in, in_body, after_body, acted, after_actions, condition_fault, environment}
use Rattle.sfc_instances.specs.sfc_instance.ProgramScan.{unless, of_condition, of_control, with_row, next_row, attempt}
use Rattle.sfc_instances.specs.sfc_instance.ProgramScan.{after_attempt, unless_faulted}
use Rattle.sfc_events.specs.declared.event.Event.{Event}
use Rattle.sfc_events.specs.declared.event.Event.TheVariants as event
use Rattle.sfc_events.specs.History.{History}
use Rattle.sfc_instances.specs.PlantState.{PlantState, after_program, program_scan, after_instance, after_task}
use Rattle.sfc_core.specs.PlantState.{after_event, state_of}
use Rattle.sfc_core.specs.Forcing.{turns}

abbrev IsStore : Change → Type 0
IsStore (Stored id v) = Unit {0}
IsStore (Forced id v) = ⊥
IsStore (Released id) = ⊥
IsStore (Reset p) = ⊥

abbrev AreStores : List Change → Type 0
AreStores [] = Unit {0}
AreStores (change ∷ changes) = IsStore change × AreStores changes

-- these changes, and before them the old ones
record Grows (old new : List Change) : Type 0 where
  recent : List Change
  is : new ≡ recent ++ old
  stores : AreStores recent

both_store : (xs ys : List Change) → AreStores xs → AreStores ys → AreStores (xs ++ ys)
both_store [] ys first second = second
both_store (x ∷ xs) ys (one, first) second = (one, both_store xs ys first second)

stays : (changes : List Change) → Grows changes changes
stays changes = record { recent = []; is = refl; stores = tt }

on_and_on : (a b d : List Change) → Grows a b → Grows b d → Grows a d
on_and_on a b d f g = record {
  recent = g.recent ++ f.recent;
  is = g.is ∙ ap (λ (xs : List Change). g.recent ++ xs) f.is ∙ sym (append_assoc g.recent f.recent a);
  stores = both_store g.recent f.recent g.stores f.stores;
}

-- ---- bodies

assigned : (x : Value) (o : Option ℕ) → AreStores (changes_in (option_map (stored_to x) o))
assigned x None = tt
assigned x (Some i) = (tt, tt)

one_left : (x : Value) (o : Option ℕ) (changes : List Change) → AreStores changes
    → AreStores (cons_option (option_map (stored_to x) o) changes)
one_left x None changes all = all
one_left x (Some i) changes all = (tt, all)

left_among : (plant : PlantData) (p : ProgId) (env : Environment) (vs : List Variable) → AreStores (filter_map (left_in plant p env) vs)
left_among plant p env [] = tt
left_among plant p env (v ∷ vs) =
    one_left (env.stored_at v) (number_of plant p v) (filter_map (left_in plant p env) vs) (left_among plant p env vs)

-- ---- results

abbrev GrowsBy : {F : Type 0} → List Change → Result (List Change) F → Type 0
GrowsBy old (Ok new) = Grows old new
GrowsBy old (Err f) = Unit {0}

on_by : {F : Type 0} (a b : List Change) (r : Result (List Change) F) → Grows a b → GrowsBy b r → GrowsBy a r
on_by a b (Ok new) f g = on_and_on a b new f g
on_by a b (Err e) f g = tt

either_by : {F : Type 0} (b : Bool) (old : List Change) (r s : Result (List Change) F) → GrowsBy old r → GrowsBy old s
    → GrowsBy old (cond b r s)
either_by true old r s f g = f
either_by false old r s f g = g

then_by : {F : Type 0} (old : List Change) (r : Result (List Change) F) (next : List Change → Result (List Change) F) → GrowsBy old r
    → ((mid : List Change) → GrowsBy mid (next mid)) → GrowsBy old (and_then r next)
then_by old (Ok mid) next f g = on_by old mid (next mid) f (g mid)
then_by old (Err e) next f g = tt

unless_by : (o : Option PlacedFault) (old : List Change) (r : Result (List Change) PlacedFault) → GrowsBy old r → GrowsBy old (unless o r)
unless_by None old r f = f
unless_by (Some e) old r f = tt

-- ---- a scan of an instance

module _ (plant : PlantData) (p : ProgId) where
  body_grows : (old : List Change) (id : ActionId) (body : Body) (env : Environment) → GrowsBy old (after_body plant p old id body env)
  body_grows old id body env = by (effect body env).result where
    by : (r : Result (Unit {0}) Fault)
        → GrowsBy old (and_then (in_body id (statements_done body env) r) (λ (u : Unit {0}). Ok (left_by plant p (effect body env).environment ++ old)))
    by (Ok u) = record {
      recent = left_by plant p (effect body env).environment;
      is = refl;
      stores = left_among plant p (effect body env).environment (variables_of plant p);
    }
    by (Err e) = tt

  acted_grows : (life : Life) (t : ℤ) (a : ℕ) (target : Target) (old : List Change) → GrowsBy old (acted plant p life t a target old)
  acted_grows life t a (Boolean v) old = record {
    recent = assignment plant p v _;
    is = refl;
    stores = assigned _ (number_of plant p v);
  }
  acted_grows life t a (Declared id) old =
      let tables : Tabled = tables_of (chart_of plant p) in
      let scans = control_scans tables life in
      let body = body_in (slice_get (chart_of plant p).actions id.0) in
      let env = environment plant p life old t (control.q tables a scans) in
      either_by (control.executed tables a scans) old (after_body plant p old id body env) (Ok old) (body_grows old id body env) (stays old)

  actions_grow : (life : Life) (t : ℤ) (a : ℕ) (targets : List Target) (old : List Change)
      → GrowsBy old (after_actions plant p life t a targets old)
  actions_grow life t a [] old = stays old
  actions_grow life t a (target ∷ targets) old =
      then_by old (acted plant p life t a target old) (λ mid. after_actions plant p life t (suc a) targets mid)
      (acted_grows life t a target old) (λ mid. actions_grow life t (suc a) targets mid)

  attempt_grows : (life : Life) (old : List Change) (t : ℤ) → GrowsBy old (attempt plant p life old t)
  attempt_grows life old t =
      let tables : Tabled = tables_of (chart_of plant p) in
      let row : Row = next_row plant p life old t in
      let env = environment plant p life old t false in
      unless_by (of_condition (condition_fault tables (chart_of plant p) env life tables.ranked)) old (with_row plant p life old t row)
      (unless_by (of_control (control.first_fault tables (control_scans tables (row ∷ life)))) old
      (after_actions plant p (row ∷ life) t 0 tables.actions old)
      (actions_grow (row ∷ life) t 0 tables.actions old))

  after_grows : (life : Life) (old : List Change) (row : Row) (r : Result (List Change) PlacedFault) → GrowsBy old r
      → Grows old (after_attempt life old row r).changes
  after_grows life old row (Ok new) f = f
  after_grows life old row (Err e) f = stays old

  scan_grows : (instance_state : InstanceState) (old : List Change) (t : ℤ) (o : Option ScanFault)
      → Grows old (unless_faulted plant p instance_state old t o).changes
  scan_grows instance_state old t None =
      let life = instance_state.life in
      after_grows life old (next_row plant p life old t) (attempt plant p life old t) (attempt_grows life old t)
  scan_grows instance_state old t (Some f) = stays old

-- ---- a scan of a task

either_grows : (b : Bool) (old : List Change) (x y : PlantState) → Grows old x.changes → Grows old y.changes → Grows old (cond b x y).changes
either_grows true old x y f g = f
either_grows false old x y f g = g

program_grows : (plant : PlantData) (t : ℤ) (k : ℕ) (state : PlantState) → Grows state.changes (program_scan plant t k state).changes
unfolding program_scan
program_grows plant t k state = scan_grows plant (record { 0 = k }) (state.instance_state k) state.changes t (state.instance_state k).fault

task_grows : (plant : PlantData) (task : TaskId) (t : ℤ) (k : ℕ) (instances : List Instance) (state : PlantState)
    → Grows state.changes (after_task plant task t k instances state).changes
task_grows plant task t k [] state = stays state.changes
task_grows plant task t k (instance ∷ instances) state =
    let next : PlantState = after_instance plant task t k instance state in
    on_and_on state.changes next.changes (after_task plant task t (suc k) instances next).changes
    (either_grows (instance.task.0 == task.0) state.changes (after_program (record { 0 = k }) (program_scan plant t k state) state) state
    (program_grows plant t k state) (stays state.changes))
    (task_grows plant task t (suc k) instances next)

-- ---- an event

-- what was done before stands below what the event did
event_grows : (plant : PlantData) (e : Event) (t : ℤ) (state : PlantState)
    → (recent : List Change) × ((after_event plant e t state).changes ≡ recent ++ state.changes)
event_grows plant (event.Scan task) t state = let g = task_grows plant task t 0 plant.instances state in (g.recent, g.is)
event_grows plant (event.ForcedScan task) t state = let g = task_grows plant task t 0 plant.instances state in (g.recent, g.is)
event_grows plant (event.Input id v) t state = (Stored id v ∷ [], refl)
event_grows plant (event.Force id v) t state = (Forced id v ∷ [], refl)
event_grows plant (event.Release id) t state = (Released id ∷ [], refl)
event_grows plant (event.Reset p) t state = (Reset p ∷ [], refl)

pub history_grows : (plant : PlantData) (later h : History)
    → (recent : List Change) × ((state_of plant (later ++ h)).changes ≡ recent ++ (state_of plant h).changes)
unfolding state_of
history_grows plant [] h = ([], refl)
history_grows plant (timed_event ∷ later) h =
    let before = history_grows plant later h in
    let now = event_grows plant timed_event.0 timed_event.1 (state_of plant (later ++ h)) in (
      now.0 ++ before.0,
      now.1 ∙ ap (λ (xs : List Change). now.0 ++ xs) before.1 ∙ sym (append_assoc now.0 before.0 (state_of plant h).changes),
    )

-- ---- forces

unforced : (recent old : List Change) (i : ℕ) → AreStores recent → forced_value (recent ++ old) i ≡ forced_value old i
unforced [] old i all = refl
unforced (Stored id v ∷ recent) old i (one, all) = unforced recent old i all
unforced (Forced id v ∷ recent) old i (one, all) = absurd one
unforced (Released id ∷ recent) old i (one, all) = absurd one
unforced (Reset p ∷ recent) old i (one, all) = absurd one

task_forces : (plant : PlantData) (task : TaskId) (t : ℤ) (state : PlantState) (i : ℕ)
    → forced_value (after_task plant task t 0 plant.instances state).changes i ≡ forced_value state.changes i
task_forces plant task t state i =
    let g = task_grows plant task t 0 plant.instances state in
    ap (λ (xs : List Change). forced_value xs i) g.is ∙ unforced g.recent state.changes i g.stores

pub event_forces : (plant : PlantData) (e : Event) (t : ℤ) (state : PlantState) (i : ℕ) → turns i e ≡ false
    → forced_value (after_event plant e t state).changes i ≡ forced_value state.changes i
event_forces plant (event.Scan task) t state i off = task_forces plant task t state i
event_forces plant (event.ForcedScan task) t state i off = task_forces plant task t state i
event_forces plant (event.Input id v) t state i off = refl
event_forces plant (event.Force id v) t state i off = forced_there state.changes id v i off
event_forces plant (event.Release id) t state i off = released_there state.changes id i off
event_forces plant (event.Reset p) t state i off = refl
