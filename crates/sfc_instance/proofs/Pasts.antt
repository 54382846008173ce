-- What is kept is the past of how the instance stands, and a scan goes by it.
use denote.Struct.Props.{props}
use Rattle.std.proofs.Common.{◌≡◌, ℕ, suc, ◌+◌, ◌<◌, ◌^◌, ◌-◌, arith, Bool, true, false, cond, ◌&&◌, List, [], ◌∷◌, ◌++◌, length}
use Rattle.std.proofs.Common.{refl, ◌∙◌, ap, subst, ℤ, Option, Some, None, Result, Ok, Err}
use Rattle.std.specs.Prelude.{map, slice_get, min}
use Rattle.std.specs.List.{range_with_len}
use Rattle.std.specs.Result.{result_err}
use Rattle.sfc_base.specs.declared.value.Value.TheVariants as value
use Rattle.sfc_expr.specs.declared.fault.Fault.{Fault}
use Rattle.sfc_expr.specs.Environment.{Environment}
use Rattle.sfc_expr.specs.Trees.{Body}
use Rattle.sfc_expr.specs.Effect.{effect}
use Rattle.sfc_base.specs.declared.ids.ActionId.{ActionId}
use Rattle.sfc_plant.specs.declared.association.Target.{Target}
use Rattle.sfc_plant.specs.declared.association.Target.TheVariants.{Boolean, Declared}
use Rattle.sfc_plant.specs.declared.chart.Chart.{Chart}
use Rattle.sfc_base.specs.declared.ids.TransitionId.{TransitionId}
use Rattle.sfc_tables.specs.Tables.{Tabled, AreTables, tables_of}
use Rattle.sfc_tables.proofs.Sound.{tables_sound, tables_of_made}
use Rattle.sfc_evolve.specs.Clearing.{preceding_of, transition_count, step_count}
use Rattle.sfc_evolve.specs.Evolution.{is_active, active_steps}
use Rattle.sfc_evolve.specs.Lookback.{or_else}
use Rattle.sfc_evolve.specs.Past.{steps_past}
use Rattle.sfc_evolve.proofs.Next.{all_same}
use Rattle.sfc_evolve.proofs.Pasts as evolve
use Rattle.sfc_evolve.proofs.TableFacts.{all_preceding_below}
use Rattle.sfc_action.specs.ActionControl as control
use Rattle.sfc_action.specs.declared.fault.ActionFault.{ActionFault}
use Rattle.sfc_instance.specs.declared.conditions.TransitionFault.{TransitionFault}
use Rattle.sfc_image.specs.BodyFaults.{statements_done}
use Rattle.sfc_action.specs.Past.{controls_past}
use Rattle.sfc_action.proofs.Pasts as action
use Rattle.sfc_base.specs.declared.ids.ProgId.{ProgId}
use Rattle.sfc_plant.specs.Plants.{PlantData}
use Rattle.sfc_plant.specs.Finding.{chart_of}
use Rattle.sfc_plant.specs.Sound.{IsPlant}
use Rattle.sfc_plant.proofs.Charts.{chart_sound}
use Rattle.sfc_image.specs.Changes.{Change}
use Rattle.sfc_image.specs.Environments.{environment_of}
use Rattle.sfc_image.specs.Bodies.{assignment, left_by}
use Rattle.sfc_image.specs.Past.{image_past}
use Rattle.sfc_image.proofs.Pasts as image
use Rattle.sfc_instance.specs.declared.scan_fault.ScanFault.{ScanFault}
use Rattle.sfc_instance.specs.declared.program.Program.{Program}
use Rattle.sfc_instance.specs.Life.{Row, Life, PlacedFault, InstanceState, evolution_scan, evolution_scans, evolution_rows, control_scans}
use Rattle.sfc_instance.specs.ProgramScan.{moment, environment, enabled, condition_result, is_true, condition_flags, condition_fault, fault_with}
use Rattle.sfc_instance.specs.ProgramScan.{association_times, row_of, body_in, in_body, and_then, after_body, acted, after_actions, unless}
use Rattle.sfc_instance.specs.ProgramScan.{of_condition, of_control, with_row, next_row, attempt, After, after_attempt}
use Rattle.sfc_instance.specs.ProgramScan.{unless_faulted, after_scan}
use Rattle.sfc_instance.specs.Agreement.{StateAgrees, ProgramAgrees, place_in}
use Rattle.sfc_instance.specs.Past.{instance_past, past_in}

-- the chart of each instance has tables
pub has_tables : (plant : PlantData) → IsPlant plant → (k : ℕ) → k < length plant.instances
    → AreTables (tables_of (chart_of plant (record { 0 = k })))
has_tables plant sound k lt =
    let chart = chart_of plant (record { 0 = k }) in
    let some = chart_sound plant sound k lt in
    tables_sound some.0 chart some.1 (tables_of chart) (tables_of_made chart)

-- ---- what is kept is the past

pub keeps_past : (tables : Tabled) (program : Program) (instance_state : InstanceState) → ProgramAgrees tables program instance_state
    → past_in tables program ≡ instance_past tables instance_state
unfolding ProgramAgrees StateAgrees past_in place_in
keeps_past tables program instance_state k =
    let steps = evolve.keeps_past tables program.run.now.steps (evolution_scans instance_state.life) k.now.steps in
    let controls = action.keeps_past tables program.run.now.controls (control_scans tables instance_state.life) k.now.controls in
    (λ i. record { steps = steps i; controls = controls i; scans = k.scans i; at = k.at i; fault = k.fault i; place = k.place i })

pub same_past : (tables : Tabled) (program : Program) (instance_state other : InstanceState) → ProgramAgrees tables program instance_state
    → instance_past tables instance_state ≡ instance_past tables other → ProgramAgrees tables program other
unfolding ProgramAgrees StateAgrees
same_past tables program instance_state other k e = record {
  now = record {
    steps = evolve.same_past tables program.run.now.steps (evolution_scans instance_state.life) (evolution_scans other.life) k.now.steps
        (ap (λ p. p.steps) e);
    controls = action.same_past tables program.run.now.controls (control_scans tables instance_state.life)
        (control_scans tables other.life) k.now.controls (ap (λ p. p.controls) e);
  };
  fresh = k.fresh;
  scans = k.scans ∙ ap (λ p. p.scans) e;
  at = k.at ∙ ap (λ p. p.at) e;
  fault = k.fault ∙ ap (λ p. p.fault) e;
  place = k.place ∙ ap (λ p. p.place) e;
}

-- ---- results with the same pasts

abbrev SameDone : {F : Type 0} → PlantData → Result (List Change) F → Result (List Change) F → Type 0
SameDone plant (Ok c) (Ok d) = image_past plant c ≡ image_past plant d
SameDone plant (Err f) (Err g) = f ≡ g
SameDone plant _ _ = ⊥

then_same : {F : Type 0} (plant : PlantData) (r s : Result (List Change) F) (f g : List Change → Result (List Change) F)
    → SameDone plant r s → ((c d : List Change) → image_past plant c ≡ image_past plant d → SameDone plant (f c) (g d))
    → SameDone plant (and_then r f) (and_then s g)
then_same plant (Ok c) (Ok d) f g same next = next c d same
then_same plant (Ok c) (Err y) f g same next = absurd same
then_same plant (Err x) (Ok d) f g same next = absurd same
then_same plant (Err x) (Err y) f g same next = same

unless_same : (plant : PlantData) (o : Option PlacedFault) (r s : Result (List Change) PlacedFault) → SameDone plant r s
    → SameDone plant (unless o r) (unless o s)
unless_same plant None r s same = same
unless_same plant (Some f) r s same = refl

-- what a body leaves over changes
body_done : (plant : PlantData) (p : ProgId) (c d : List Change) (id : ActionId) (body : Body) (env : Environment)
    → image_past plant c ≡ image_past plant d → SameDone plant (after_body plant p c id body env) (after_body plant p d id body env)
body_done plant p c d id body env same = by (effect body env).result where
  by : (r : Result (Unit {0}) Fault)
      → SameDone plant (and_then (in_body id (statements_done body env) r) (λ (u : Unit {0}). Ok (left_by plant p (effect body env).environment ++ c)))
      (and_then (in_body id (statements_done body env) r) (λ (u : Unit {0}). Ok (left_by plant p (effect body env).environment ++ d)))
  by (Ok u) = image.past_cut plant c d (left_by plant p (effect body env).environment) same
  by (Err f) = refl

-- ---- lives with the same pasts

record SameLives (tables : Tabled) (life other : Life) : Type 0 where
  steps : steps_past tables (evolution_scans life) ≡ steps_past tables (evolution_scans other)
  controls : controls_past tables (control_scans tables life) ≡ controls_past tables (control_scans tables other)

module _ (tables : Tabled) (sound : AreTables tables) (life other : Life) (same : SameLives tables life other) where
  enabled_same : (tr : ℕ) → enabled tables life tr ≡ enabled tables other tr
  enabled_same tr =
      all_same (is_active tables (evolution_rows tables life)) (is_active tables (evolution_rows tables other)) (step_count tables)
      (evolve.active_by tables (evolution_scans life) (evolution_scans other) same.steps)
      (preceding_of tables.sides tr) (all_preceding_below tables sound record { 0 = tr })

  moment_same : (t : ℤ) (q : Bool) → moment tables life t q ≡ moment tables other t q
  moment_same t q =
      let active = ap (λ p. p.active) same.steps in
      let times = evolve.times_by tables (evolution_scans life) (evolution_scans other) same.steps t in
      (λ i. record { active = active i; times = times i; q = q })

  flags_same : (chart : Chart) (env : Environment) → condition_flags tables chart env life ≡ condition_flags tables chart env other
  flags_same chart env = (λ i. map (λ tr. enabled_same tr i && is_true (condition_result chart env tr))
      (range_with_len 0 (transition_count tables)))

  faults_same : (chart : Chart) (env : Environment) (ranked : List TransitionId)
      → condition_fault tables chart env life ranked ≡ condition_fault tables chart env other ranked
  faults_same chart env [] = refl
  faults_same chart env (tr ∷ ranked) =
      let rest = faults_same chart env ranked in
      (λ i. or_else (fault_with tr (cond (enabled_same tr.0 i) (result_err (condition_result chart env tr.0)) None)) (rest i))

  -- the input of action control at the next scan
  active_same : (row : Row)
      → active_steps tables (evolution_rows tables (row ∷ life)) ≡ active_steps tables (evolution_rows tables (row ∷ other))
  active_same row =
      ap (λ p. p.active)
      (evolve.past_next tables sound (evolution_scan row) (evolution_scans life) (evolution_scans other) same.steps)

  control_fault_same : (row : Row)
      → control.first_fault tables (control_scans tables (row ∷ life)) ≡ control.first_fault tables (control_scans tables (row ∷ other))
  control_fault_same row =
      let scan : control.Scan = record { active = active_steps tables (evolution_rows tables (row ∷ other)); times = row.times; at = row.at } in
      (λ i. control.first_fault tables
      (record { active = active_same row i; times = row.times; at = row.at } ∷ control_scans tables life))
      ∙ action.fault_cut tables scan (control_scans tables life) (control_scans tables other) sound same.controls

  lives_next : (row : Row) → SameLives tables (row ∷ life) (row ∷ other)
  lives_next row =
      let scan : control.Scan = record { active = active_steps tables (evolution_rows tables (row ∷ other)); times = row.times; at = row.at } in
      record {
        steps = evolve.past_next tables sound (evolution_scan row) (evolution_scans life) (evolution_scans other) same.steps;
        controls = (λ i. controls_past tables
            (record { active = active_same row i; times = row.times; at = row.at } ∷ control_scans tables life))
            ∙ action.past_next tables scan (control_scans tables life) (control_scans tables other) same.controls;
      }

-- ---- a scan

module _ (plant : PlantData) (p : ProgId) (sound : AreTables (tables_of (chart_of plant p))) where
  abbrev tables : Tabled
  tables = tables_of (chart_of plant p)

  environment_same : (life other : Life) (changes others : List Change) (t : ℤ) (q : Bool) → SameLives tables life other
      → image_past plant changes ≡ image_past plant others
      → environment plant p life changes t q ≡ environment plant p other others t q
  environment_same life other changes others t q same e =
      ap (λ m. environment_of plant changes p m) (moment_same tables sound life other same t q)
      ∙ image.environment_by plant changes others p e (moment tables other t q)

  acted_same : (life other : Life) (t : ℤ) (a : ℕ) (target : Target) (c d : List Change) → SameLives tables life other
      → a < length tables.actions → image_past plant c ≡ image_past plant d
      → SameDone plant (acted plant p life t a target c) (acted plant p other t a target d)
  acted_same life other t a (Boolean v) c d same lt e =
      let q = ap (λ x. x.q) (action.action_by tables (control_scans tables life) (control_scans tables other) same.controls a lt) in
      ap (λ b. image_past plant (assignment plant p v (value.Bool b) ++ c)) q
      ∙ image.past_cut plant c d (assignment plant p v (value.Bool (control.q tables a (control_scans tables other)))) e
  acted_same life other t a (Declared id) c d same lt e =
      let by = action.action_by tables (control_scans tables life) (control_scans tables other) same.controls a lt in
      let q : control.q tables a (control_scans tables life) ≡ control.q tables a (control_scans tables other) = ap (λ x. x.q) by in
      let executed : control.executed tables a (control_scans tables life) ≡ control.executed tables a (control_scans tables other) =
      ap (λ x. x.executed) by in
      let body = body_in (slice_get (chart_of plant p).actions id.0) in
      let b = control.q tables a (control_scans tables other) in
      let env : environment plant p life c t (control.q tables a (control_scans tables life)) ≡ environment plant p other d t b =
      ap (λ x. environment plant p life c t x) q ∙ environment_same life other c d t b same e in
      run (control.executed tables a (control_scans tables life)) (control.executed tables a (control_scans tables other)) executed
      body (environment plant p life c t (control.q tables a (control_scans tables life))) (environment plant p other d t b) env
    where
      run : (x y : Bool) → x ≡ y → (body : Body) (one two : Environment) → one ≡ two
          → SameDone plant (cond x (after_body plant p c id body one) (Ok c)) (cond y (after_body plant p d id body two) (Ok d))
      run true true same body one two f = subst (λ (w : Environment). SameDone plant (after_body plant p c id body one) (after_body plant p d id body w)) f
          (body_done plant p c d id body one e)
      run true false same body one two f = absurd (cc)
      run false true same body one two f = absurd (cc)
      run false false same body one two f = e

  actions_same : (life other : Life) (t : ℤ) → SameLives tables life other → (a : ℕ) (targets : List Target) (c d : List Change)
      → a + length targets ≡ length tables.actions → image_past plant c ≡ image_past plant d
      → SameDone plant (after_actions plant p life t a targets c) (after_actions plant p other t a targets d)
  actions_same life other t same a [] c d long e = e
  actions_same life other t same a (target ∷ targets) c d long e =
      then_same plant (acted plant p life t a target c) (acted plant p other t a target d)
      (λ after. after_actions plant p life t (suc a) targets after) (λ after. after_actions plant p other t (suc a) targets after)
      (acted_same life other t a target c d same (omega arith) e)
      (λ x y f. actions_same life other t same (suc a) targets x y (omega arith) f)

  with_row_same : (life other : Life) (c d : List Change) (t : ℤ) (row : Row) → SameLives tables life other
      → image_past plant c ≡ image_past plant d
      → SameDone plant (with_row plant p life c t row) (with_row plant p other d t row)
  with_row_same life other c d t row same e =
      let fault = control_fault_same tables sound life other same row in
      subst
      (λ (o : Option ActionFault). SameDone plant (unless (of_control (control.first_fault tables (control_scans tables (row ∷ life))))
      (after_actions plant p (row ∷ life) t 0 tables.actions c))
      (unless (of_control o) (after_actions plant p (row ∷ other) t 0 tables.actions d))) fault
      (unless_same plant (of_control (control.first_fault tables (control_scans tables (row ∷ life))))
      (after_actions plant p (row ∷ life) t 0 tables.actions c) (after_actions plant p (row ∷ other) t 0 tables.actions d)
      (actions_same (row ∷ life) (row ∷ other) t (lives_next tables sound life other same row) 0 tables.actions c d (omega arith) e))

  row_same : (life other : Life) (c d : List Change) (t : ℤ) → SameLives tables life other → image_past plant c ≡ image_past plant d
      → next_row plant p life c t ≡ next_row plant p other d t
  row_same life other c d t same e =
      let env = environment_same life other c d t false same e in
      let flags = flags_same tables sound life other same (chart_of plant p) (environment plant p other d t false) in
      ap (λ x. row_of tables (chart_of plant p) x life t) env
      ∙ (λ i. record { conditions = flags i; times = association_times tables (environment plant p other d t false); at = t })

  attempt_same : (life other : Life) (c d : List Change) (t : ℤ) → SameLives tables life other → image_past plant c ≡ image_past plant d
      → SameDone plant (attempt plant p life c t) (attempt plant p other d t)
  attempt_same life other c d t same e =
      let env = environment_same life other c d t false same e in
      let env' = environment plant p other d t false in
      let fault : condition_fault tables (chart_of plant p) (environment plant p life c t false) life tables.ranked
      ≡ condition_fault tables (chart_of plant p) env' other tables.ranked =
      ap (λ x. condition_fault tables (chart_of plant p) x life tables.ranked) env
      ∙ faults_same tables sound life other same (chart_of plant p) env' tables.ranked in
      let row = row_same life other c d t same e in
      subst
      (λ (o : Option TransitionFault). SameDone plant
      (unless (of_condition (condition_fault tables (chart_of plant p) (environment plant p life c t false) life tables.ranked))
      (with_row plant p life c t (next_row plant p life c t)))
      (unless (of_condition o) (with_row plant p other d t (next_row plant p other d t)))) fault
      (unless_same plant
      (of_condition (condition_fault tables (chart_of plant p) (environment plant p life c t false) life tables.ranked))
      (with_row plant p life c t (next_row plant p life c t)) (with_row plant p other d t (next_row plant p other d t))
      (subst (λ (r : Row). SameDone plant (with_row plant p life c t (next_row plant p life c t)) (with_row plant p other d t r)) row
      (with_row_same life other c d t (next_row plant p life c t) same e)))

  pub record SameAfter (one two : After) : Type 0 where
    pub instance_state : instance_past tables one.instance_state ≡ instance_past tables two.instance_state
    pub changes : image_past plant one.changes ≡ image_past plant two.changes
    pub scan_end : one.scan_end ≡ two.scan_end

  counted : (life other : Life) → min (length life) (2 ^ 64 - 1) ≡ min (length other) (2 ^ 64 - 1)
      → min (suc (length life)) (2 ^ 64 - 1) ≡ min (suc (length other)) (2 ^ 64 - 1)
  counted life other e = omega arith

  after_same : (instance_state other : InstanceState) (c d : List Change) (row row' : Row) (r s : Result (List Change) PlacedFault)
      → instance_past tables instance_state ≡ instance_past tables other → image_past plant c ≡ image_past plant d → row ≡ row'
      → SameDone plant r s → SameAfter (after_attempt instance_state.life c row r) (after_attempt other.life d row' s)
  after_same instance_state other c d row row' (Ok x) (Ok y) same e er done =
      let lives : SameLives tables instance_state.life other.life =
      record { steps = ap (λ p. p.steps) same; controls = ap (λ p. p.controls) same } in
      let next = lives_next tables sound instance_state.life other.life lives row in
      let scans = counted instance_state.life other.life (ap (λ p. p.scans) same) in
      record {
        instance_state = (λ i. record {
          steps = next.steps i;
          controls = next.controls i;
          scans = scans i;
          at = row.at;
          fault = None;
          place = None;
        }) ∙ (λ i. instance_past tables (record { life = er i ∷ other.life; fault = None; place = None }));
        changes = done;
        scan_end = refl;
      }
  after_same instance_state other c d row row' (Ok x) (Err g) same e er done = absurd done
  after_same instance_state other c d row row' (Err f) (Ok y) same e er done = absurd done
  after_same instance_state other c d row row' (Err f) (Err g) same e er done = record {
    instance_state = (λ i. record {
      steps = (same i).steps;
      controls = (same i).controls;
      scans = (same i).scans;
      at = (same i).at;
      fault = Some (done i).fault;
      place = Some (done i).place;
    });
    changes = e;
    scan_end = refl;
  }

  faulted_same : (instance_state other : InstanceState) (c d : List Change) (t : ℤ) (o u : Option ScanFault)
      → instance_past tables instance_state ≡ instance_past tables other → image_past plant c ≡ image_past plant d → o ≡ u
      → SameAfter (unless_faulted plant p instance_state c t o) (unless_faulted plant p other d t u)
  faulted_same instance_state other c d t None None same e eo =
      let lives : SameLives tables instance_state.life other.life =
      record { steps = ap (λ p. p.steps) same; controls = ap (λ p. p.controls) same } in
      after_same instance_state other c d (next_row plant p instance_state.life c t) (next_row plant p other.life d t)
      (attempt plant p instance_state.life c t) (attempt plant p other.life d t) same e
      (row_same instance_state.life other.life c d t lives e) (attempt_same instance_state.life other.life c d t lives e)
  faulted_same instance_state other c d t (Some f) (Some g) same e eo = record {
    instance_state = same;
    changes = e;
    scan_end = refl;
  }
  faulted_same instance_state other c d t None (Some g) same e eo = absurd (cc)
  faulted_same instance_state other c d t (Some f) None same e eo = absurd (cc)

  pub scan_same : (instance_state other : InstanceState) (c d : List Change) (t : ℤ)
      → instance_past tables instance_state ≡ instance_past tables other → image_past plant c ≡ image_past plant d
      → SameAfter (after_scan plant p instance_state c t) (after_scan plant p other d t)
  scan_same instance_state other c d t same e = faulted_same instance_state other c d t instance_state.fault other.fault same e (ap (λ p. p.fault) same)

-- it agrees in one way at most
pub agrees_prop : (tables : Tabled) (program : Program) (instance_state : InstanceState) → IsProp (ProgramAgrees tables program instance_state)
unfolding ProgramAgrees StateAgrees
agrees_prop tables program instance_state = hlevel (props, evolve.agrees_prop, action.agrees_prop)
