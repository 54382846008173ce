-- At the place of a fault that fault is found.
use Rattle.std.proofs.Common.{◌≡◌, ℕ, suc, ◌+◌, arith, Bool, true, false, cond, List, [], ◌∷◌, ◌++◌, ℤ, Option, Some, None, is_some, Result, Ok, Err, refl, sym, ap, subst, ◌∙◌}
use Rattle.std.specs.Prelude.{slice_get, take}
use Rattle.std.specs.Option.{option_map}
use Rattle.std.specs.Result.{result_err}
use Rattle.sfc_base.specs.declared.ids.ActionId.{ActionId}
use Rattle.sfc_base.specs.declared.ids.ProgId.{ProgId}
use Rattle.sfc_base.specs.declared.ids.TransitionId.{TransitionId}
use Rattle.sfc_expr.specs.declared.fault.Fault.{Fault}
use Rattle.sfc_expr.specs.Environment.{Environment}
use Rattle.sfc_expr.specs.Effect.{effect}
use Rattle.sfc_plant.specs.declared.association.Target.{Target}
use Rattle.sfc_plant.specs.declared.association.Target.TheVariants.{Boolean, Declared}
use Rattle.sfc_plant.specs.declared.chart.Chart.{Chart}
use Rattle.sfc_plant.specs.Plants.{PlantData}
use Rattle.sfc_plant.specs.Finding.{chart_of}
use Rattle.sfc_tables.specs.Tables.{Tabled, tables_of}
use Rattle.sfc_evolve.specs.Lookback.{or_else}
use Rattle.sfc_action.specs.ActionControl as control
use Rattle.sfc_action.specs.declared.fault.ActionFault.{ActionFault}
use Rattle.sfc_action.proofs.Failures.{first_of}
use Rattle.sfc_image.specs.Changes.{Change}
use Rattle.sfc_image.specs.Bodies.{left_by}
use Rattle.sfc_image.specs.BodyFaults.{after_done, statements_done}
use Rattle.sfc_instance.specs.declared.conditions.TransitionFault.{TransitionFault}
use Rattle.sfc_instance.specs.declared.fault_place.FaultPlace.{FaultPlace}
use Rattle.sfc_instance.specs.declared.fault_place.FaultPlace.TheVariants as place
use Rattle.sfc_instance.specs.declared.scan_fault.ScanFault.{ScanFault}
use Rattle.sfc_instance.specs.declared.scan_fault.ScanFault.TheVariants as fault
use Rattle.sfc_instance.specs.Life.{Life, Row, PlacedFault, InstanceState, control_scans}
use Rattle.sfc_instance.specs.ProgramScan.{environment, fault_at, fault_with, condition_fault, next_row, and_then, in_body, acted, after_actions}
use Rattle.sfc_instance.specs.ProgramScan.{unless, of_condition, of_control, with_row, attempt, after_attempt, unless_faulted}
use Rattle.sfc_instance.specs.FaultPlaces.{body_of, body_environment, is_executed, IsInBody, IsFoundAt}

-- ---- conditions

same_some : {A : Type 0} (x y : A) → Some x ≡ Some y → x ≡ y
same_some x y e = cc

module _ (tables : Tabled) (chart : Chart) (env : Environment) (life : Life) where
  condition_by : (tr : TransitionId) (ranked : List TransitionId) (found : TransitionFault) (o : Option Fault) → fault_at tables chart env life tr.0 ≡ o
      → (condition_fault tables chart env life ranked ≡ Some found → fault_at tables chart env life found.transition.0 ≡ Some found.fault)
      → or_else (fault_with tr o) (condition_fault tables chart env life ranked) ≡ Some found
      → fault_at tables chart env life found.transition.0 ≡ Some found.fault
  condition_by tr ranked found None is later e = later e
  condition_by tr ranked found (Some f) is later e =
      subst (λ (one : TransitionFault). fault_at tables chart env life one.transition.0 ≡ Some one.fault)
      (same_some (record { transition = tr; fault = f }) found e) is

  pub condition_of : (ranked : List TransitionId) (found : TransitionFault) → condition_fault tables chart env life ranked ≡ Some found
      → fault_at tables chart env life found.transition.0 ≡ Some found.fault
  condition_of [] found e = absurd cc
  condition_of (tr ∷ ranked) found e =
      condition_by tr ranked found (fault_at tables chart env life tr.0) refl (condition_of ranked found) e

-- ---- bodies

same_error : (r : Result (List Change) PlacedFault) (x y : PlacedFault) → r ≡ Err x → r ≡ Err y → x ≡ y
same_error r x y e g = cc

module _ (plant : PlantData) (p : ProgId) (life : Life) (t : ℤ) where
  -- a body among these, of which the first is that of action `from`
  record IsAmong (from : ℕ) (targets : List Target) (changes : List Change) (stop : PlacedFault) : Type 0 where
    n : ℕ
    a : ℕ
    number : a ≡ from + n
    id : ActionId
    before : List Change
    f : Fault
    action : slice_get targets n ≡ Some (Declared id)
    earlier : after_actions plant p life t from (take n targets) changes ≡ Ok before
    executed : is_executed plant p life a ≡ true
    ends : (effect (body_of plant p id) (body_environment plant p life before t a)).result ≡ Err f
    is : record {
      fault = fault.Expression f;
      place = place.Statement id (statements_done (body_of plant p id) (body_environment plant p life before t a));
    } ≡ stop

  executed_first : (from : ℕ) (id : ActionId) (targets : List Target) (changes : List Change) (stop : PlacedFault) (b : Bool)
      (r : Result (Unit {0}) Fault) → is_executed plant p life from ≡ b
      → (effect (body_of plant p id) (body_environment plant p life changes t from)).result ≡ r
      → cond b (and_then (in_body id (statements_done (body_of plant p id) (body_environment plant p life changes t from)) r)
      (λ (u : Unit {0}). Ok (left_by plant p (effect (body_of plant p id) (body_environment plant p life changes t from)).environment ++ changes)))
      (Ok changes) ≡ Err stop
      → IsAmong from (Declared id ∷ targets) changes stop
  executed_first from id targets changes stop false r on is e = absurd cc
  executed_first from id targets changes stop true (Ok u) on is e = absurd cc
  executed_first from id targets changes stop true (Err f) on is e = record {
    n = 0;
    a = from;
    number = omega arith;
    id = id;
    before = changes;
    f = f;
    action = refl;
    earlier = refl;
    executed = on;
    ends = is;
    is = same_error _ _ stop refl e;
  }

  among_first : (from : ℕ) (target : Target) (targets : List Target) (changes : List Change) (stop : PlacedFault)
      → acted plant p life t from target changes ≡ Err stop → IsAmong from (target ∷ targets) changes stop
  among_first from (Boolean v) targets changes stop e = absurd cc
  among_first from (Declared id) targets changes stop e =
      executed_first from id targets changes stop (is_executed plant p life from)
      (effect (body_of plant p id) (body_environment plant p life changes t from)).result refl refl e

  among_by : (from : ℕ) (target : Target) (targets : List Target) (changes : List Change) (stop : PlacedFault)
      (r : Result (List Change) PlacedFault) → acted plant p life t from target changes ≡ r
      → ((after : List Change) → after_actions plant p life t (suc from) targets after ≡ Err stop → IsAmong (suc from) targets after stop)
      → and_then r (λ after. after_actions plant p life t (suc from) targets after) ≡ Err stop
      → IsAmong from (target ∷ targets) changes stop
  among_by from target targets changes stop (Ok after) is later e =
      let rest = later after e in
      let same = rest.number in
      record {
        n = suc rest.n;
        a = rest.a;
        number = omega (arith, same);
        id = rest.id;
        before = rest.before;
        f = rest.f;
        action = rest.action;
        earlier = ap (λ (r : Result (List Change) PlacedFault).
            and_then r (λ after. after_actions plant p life t (suc from) (take rest.n targets) after)) is ∙ rest.earlier;
        executed = rest.executed;
        ends = rest.ends;
        is = rest.is;
      }
  among_by from target targets changes stop (Err s) is later e = among_first from target targets changes stop (is ∙ e)

  among : (from : ℕ) (targets : List Target) (changes : List Change) (stop : PlacedFault)
      → after_actions plant p life t from targets changes ≡ Err stop → IsAmong from targets changes stop
  among from [] changes stop e = absurd cc
  among from (target ∷ targets) changes stop e =
      among_by from target targets changes stop (acted plant p life t from target changes) refl (λ after. among (suc from) targets after stop) e

  in_body_of : (changes : List Change) (stop : PlacedFault)
      → after_actions plant p life t 0 (tables_of (chart_of plant p)).actions changes ≡ Err stop
      → (id : ActionId) × (k : ℕ) × (stop.place ≡ place.Statement id k) × IsInBody plant p life changes t id k stop.fault
  in_body_of changes stop e =
      let one = among 0 (tables_of (chart_of plant p)).actions changes stop e in
      let body = body_of plant p one.id in
      let env = body_environment plant p life one.before t one.a in
      let same : one.n ≡ one.a = (let number = one.number in omega (arith, number)) in (
        one.id,
        statements_done body env,
        ap (λ (s : PlacedFault). s.place) (sym one.is),
        record {
          a = one.a;
          before = one.before;
          action = ap (λ (n : ℕ). slice_get (tables_of (chart_of plant p)).actions n) (sym same) ∙ one.action;
          earlier = ap (λ (n : ℕ). after_actions plant p life t 0 (take n (tables_of (chart_of plant p)).actions) changes) (sym same) ∙ one.earlier;
          executed = one.executed;
          there = ap (λ (r : Result (Unit {0}) Fault). after_done r (statements_done body env)) one.ends;
          ends = ap (λ (r : Result (Unit {0}) Fault). option_map (λ f. fault.Expression f) (result_err r)) one.ends
              ∙ ap (λ (s : PlacedFault). Some s.fault) one.is;
        },
      )

-- ---- a scan

module _ (plant : PlantData) (p : ProgId) (life : Life) (changes : List Change) (t : ℤ) (stop : PlacedFault) where
  abbrev tables : Tabled
  tables = tables_of (chart_of plant p)

  abbrev env : Environment
  env = environment plant p life changes t false

  abbrev row : Row
  row = next_row plant p life changes t

  abbrev Found : PlacedFault → Type 0
  Found s = IsFoundAt plant p life changes t s.place s.fault

  found_in_body : after_actions plant p (row ∷ life) t 0 tables.actions changes ≡ Err stop → Found stop
  found_in_body e =
      let one = in_body_of plant p (row ∷ life) t changes stop e in
      subst (λ there. IsFoundAt plant p life changes t there stop.fault) (sym one.2) one.3

  found_behind : with_row plant p life changes t row ≡ Err stop → Found stop
  found_behind e = by (control.first_fault tables (control_scans tables (row ∷ life))) refl e where
    by : (o : Option ActionFault) → control.first_fault tables (control_scans tables (row ∷ life)) ≡ o
        → unless (of_control o) (after_actions plant p (row ∷ life) t 0 tables.actions changes) ≡ Err stop → Found stop
    by None is e = found_in_body e
    by (Some f) is e = subst Found (same_error _ (record { fault = fault.Control f.fault; place = place.Action f.action }) stop refl e)
        (ap (option_map (λ c. fault.Control c))
        (first_of (λ a. control.fault_of tables a (control_scans tables (row ∷ life))) tables.associations f is))

  pub found : attempt plant p life changes t ≡ Err stop → Found stop
  found e = by (condition_fault tables (chart_of plant p) env life tables.ranked) refl e where
    by : (o : Option TransitionFault) → condition_fault tables (chart_of plant p) env life tables.ranked ≡ o
        → unless (of_condition o) (with_row plant p life changes t row) ≡ Err stop → Found stop
    by None is e = found_behind e
    by (Some f) is e = subst Found (same_error _ (record { fault = fault.Expression f.fault; place = place.Transition f.transition }) stop refl e)
        (ap (option_map (λ c. fault.Expression c)) (condition_of tables (chart_of plant p) env life tables.ranked f is))

-- ---- what stands

-- a place stands with a fault
module _ (plant : PlantData) (p : ProgId) (instance_state : InstanceState) (changes : List Change) (t : ℤ) where
  pub stands_placed : (o : Option ScanFault) → instance_state.fault ≡ o → is_some instance_state.place ≡ is_some instance_state.fault
      → is_some (unless_faulted plant p instance_state changes t o).instance_state.place
      ≡ is_some (unless_faulted plant p instance_state changes t o).instance_state.fault
  stands_placed (Some f) is e = e
  stands_placed None is e = by (attempt plant p instance_state.life changes t) where
    by : (r : Result (List Change) PlacedFault)
        → is_some (after_attempt instance_state.life changes (next_row plant p instance_state.life changes t) r).instance_state.place
        ≡ is_some (after_attempt instance_state.life changes (next_row plant p instance_state.life changes t) r).instance_state.fault
    by (Ok done) = refl
    by (Err stop) = refl

  -- where none stood before, it is found there
  pub stands_found : (o : Option ScanFault) → o ≡ None → (f : ScanFault)
      → (unless_faulted plant p instance_state changes t o).instance_state.fault ≡ Some f
      → (there : FaultPlace) × ((unless_faulted plant p instance_state changes t o).instance_state.place ≡ Some there)
      × IsFoundAt plant p instance_state.life changes t there f
  stands_found (Some g) none f e = absurd cc
  stands_found None none f e = by (attempt plant p instance_state.life changes t) refl e where
    by : (r : Result (List Change) PlacedFault) → attempt plant p instance_state.life changes t ≡ r
        → (after_attempt instance_state.life changes (next_row plant p instance_state.life changes t) r).instance_state.fault ≡ Some f
        → (there : FaultPlace)
        × ((after_attempt instance_state.life changes (next_row plant p instance_state.life changes t) r).instance_state.place ≡ Some there)
        × IsFoundAt plant p instance_state.life changes t there f
    by (Ok done) is e = absurd cc
    by (Err stop) is e = (
      stop.place,
      refl,
      subst (λ x. IsFoundAt plant p instance_state.life changes t stop.place x) (same_some stop.fault f e)
          (found plant p instance_state.life changes t stop is),
    )
