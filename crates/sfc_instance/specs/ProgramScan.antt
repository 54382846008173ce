-- One scan of a program instance (2.6.5; the order of its parts is our choice).
use Rattle.std.specs.Prelude.{ℕ, suc, Bool, false, cond, ◌&&◌, List, [], ◌∷◌, ◌++◌, map, ℤ, pos}
use Rattle.std.specs.Prelude.{Option, Some, None, slice_get, Result, Ok, Err}
use Rattle.std.specs.List.{range_with_len}
use Rattle.std.specs.Result.{result_err}
use Rattle.sfc_base.specs.declared.value.Value.{Value}
use Rattle.sfc_base.specs.declared.value.Value.TheVariants as value
use Rattle.sfc_expr.specs.declared.fault.Fault.{Fault}
use Rattle.sfc_base.specs.Values.{truth, number}
use Rattle.sfc_expr.specs.Environment.{Environment, value_at}
use Rattle.sfc_expr.specs.Trees.{Expression, Literal, Body, Nothing}
use Rattle.sfc_expr.specs.Meaning.{value_of}
use Rattle.sfc_expr.specs.Effect.{effect}
use Rattle.sfc_plant.specs.declared.action.Action.{Action}
use Rattle.sfc_plant.specs.declared.association.Qualifier.{Qualifier}
use Rattle.sfc_plant.specs.declared.association.Qualifier.TheVariants.{Timed}
use Rattle.sfc_plant.specs.declared.association.Target.{Target}
use Rattle.sfc_plant.specs.declared.association.Target.TheVariants.{Boolean, Declared}
use Rattle.sfc_plant.specs.declared.association.Time.TheVariants as time
use Rattle.sfc_plant.specs.declared.chart.Chart.{Chart}
use Rattle.sfc_plant.specs.declared.chart.Transition.{Transition}
use Rattle.sfc_base.specs.declared.ids.TransitionId.{TransitionId}
use Rattle.sfc_tables.specs.Tables.{Tabled, tables_of}
use Rattle.sfc_evolve.specs.Evolution as evolution
use Rattle.sfc_evolve.specs.Clearing.{is_enabled, preceding_of, transition_count}
use Rattle.sfc_evolve.specs.Evolution.{is_active, active_steps}
use Rattle.sfc_evolve.specs.Lookback.{or_else}
use Rattle.sfc_action.specs.ActionControl as control
use Rattle.sfc_action.specs.declared.fault.ActionFault.{ActionFault}
use Rattle.sfc_base.specs.declared.ids.ProgId.{ProgId}
use Rattle.sfc_plant.specs.Plants.{PlantData}
use Rattle.sfc_image.specs.Changes.{Change}
use Rattle.sfc_image.specs.Environments.{Moment, environment_of}
use Rattle.sfc_image.specs.Bodies.{assignment, left_by}
use Rattle.sfc_image.specs.BodyFaults.{statements_done}
use Rattle.sfc_instance.specs.declared.conditions.TransitionFault.{TransitionFault}
use Rattle.sfc_instance.specs.declared.fault_place.FaultPlace.TheVariants as place
use Rattle.sfc_instance.specs.declared.scan_fault.ScanFault.{ScanFault}
use Rattle.sfc_base.specs.declared.ids.ActionId.{ActionId}
use Rattle.sfc_instance.specs.declared.scan_fault.ScanFault.TheVariants as fault
use Rattle.sfc_instance.specs.declared.scan_end.ScanEnd.{ScanEnd}
use Rattle.sfc_instance.specs.declared.scan_end.ScanEnd.TheVariants.{Ran, Faulted, Skipped}
use Rattle.sfc_instance.specs.Life.{Row, Life, PlacedFault, InstanceState, evolution_rows, control_scans}
use Rattle.sfc_plant.specs.Finding.{chart_of}

-- ---- what is read

-- the times of the steps at t, by number (2.6.2)
abbrev pub step_times : Tabled → Life → ℤ → List ℤ
step_times tables life t = evolution.step_times tables (evolution_rows tables life) t

-- the steps that are active after these scans, their times at t, and Q
abbrev pub moment : Tabled → Life → ℤ → Bool → Moment
moment tables life t q = record {
  active = active_steps tables (evolution_rows tables life);
  times = step_times tables life t;
  q = q;
}

-- what the instance's expressions read, after these scans and changes, at t
abbrev pub environment : PlantData → ProgId → Life → List Change → ℤ → Bool → Environment
environment plant p life changes t q = environment_of plant changes p (moment (tables_of (chart_of plant p)) life t q)

-- ---- conditions (2.6.3)

-- the condition of a transition, by its place in the text
abbrev pub condition_in : Option Transition → Expression
condition_in None = Literal (value.Bool false)
condition_in (Some transition) = transition.condition

-- it is enabled after these scans
abbrev pub enabled : Tabled → Life → ℕ → Bool
enabled tables life tr = is_enabled (is_active tables (evolution_rows tables life)) (preceding_of tables.sides tr)

-- what its condition gives, which may be a fault
abbrev pub condition_result : Chart → Environment → ℕ → Result Value Fault
condition_result chart env tr = value_of env (condition_in (slice_get chart.transitions tr))

abbrev pub is_true : Result Value Fault → Bool
is_true (Ok x) = truth x
is_true (Err f) = false

-- it is enabled, and its condition is TRUE
abbrev pub condition_flag : Tabled → Chart → Environment → Life → ℕ → Bool
condition_flag tables chart env life tr = enabled tables life tr && is_true (condition_result chart env tr)

-- of all transitions, in text order
abbrev pub condition_flags : Tabled → Chart → Environment → Life → List Bool
condition_flags tables chart env life =
    map (condition_flag tables chart env life) (range_with_len 0 (transition_count tables))

-- the fault of its condition, if it is enabled
abbrev pub fault_at : Tabled → Chart → Environment → Life → ℕ → Option Fault
fault_at tables chart env life tr = cond (enabled tables life tr) (result_err (condition_result chart env tr)) None

-- a fault, with the transition whose condition has it
abbrev pub fault_with : TransitionId → Option Fault → Option TransitionFault
fault_with tr None = None
fault_with tr (Some f) = Some (record { transition = tr; fault = f })

-- The conditions of all enabled transitions are evaluated, also of those that then are not cleared; the first fault in
-- rank order counts.
abbrev pub condition_fault : Tabled → Chart → Environment → Life → List TransitionId → Option TransitionFault
condition_fault tables chart env life [] = None
condition_fault tables chart env life (tr ∷ ranked) =
    or_else (fault_with tr (fault_at tables chart env life tr.0)) (condition_fault tables chart env life ranked)

-- ---- times of associations (2.6.4.4)

-- as it was written, or as its variable reads before the scan
abbrev pub time_of : Environment → Qualifier → ℤ
time_of env (Timed qualifier (time.Literal t)) = t
time_of env (Timed qualifier (time.Variable v)) = number (value_at env v)
time_of env _ = pos 0

abbrev pub association_times : Tabled → Environment → List ℤ
association_times tables env = map (λ x. time_of env x.qualifier) tables.associations

-- the row of the scan
abbrev pub row_of : Tabled → Chart → Environment → Life → ℤ → Row
row_of tables chart env life t = record {
  conditions = condition_flags tables chart env life;
  times = association_times tables env;
  at = t;
}

-- ---- actions (2.6.4.1, 2.6.4.5)

abbrev pub body_in : Option Action → Body
body_in None = Nothing
body_in (Some action) = action.body

-- what follows from changes; a fault stays
abbrev pub and_then : {A B F : Type 0} → Result A F → (A → Result B F) → Result B F
and_then (Ok x) next = next x
and_then (Err f) next = Err f

-- how a body ended, with its fault at the statement that has it: behind so many that have none
abbrev pub in_body : ActionId → ℕ → Result (Unit {0}) Fault → Result (Unit {0}) PlacedFault
in_body id done (Ok u) = Ok u
in_body id done (Err f) = Err (record { fault = fault.Expression f; place = place.Statement id done })

-- the changes by the body of this action, or its fault
abbrev pub after_body : PlantData → ProgId → List Change → ActionId → Body → Environment → Result (List Change) PlacedFault
after_body plant p changes id body env =
    and_then (in_body id (statements_done body env) (effect body env).result)
    (λ (u : Unit {0}). Ok (left_by plant p (effect body env).environment ++ changes))

-- The variable of a Boolean action is assigned its Q, in every scan. The body of a declared action is executed where A
-- is 1, over the image so far; it sees the new steps, their times, and Q. `life` has the scan's own row.
abbrev pub acted : PlantData → ProgId → Life → ℤ → ℕ → Target → List Change → Result (List Change) PlacedFault
acted plant p life t a (Boolean v) changes =
    let q = control.q (tables_of (chart_of plant p)) a (control_scans (tables_of (chart_of plant p)) life) in
    Ok (assignment plant p v (value.Bool q) ++ changes)
acted plant p life t a (Declared id) changes =
    let scans = control_scans (tables_of (chart_of plant p)) life in
    let body = body_in (slice_get (chart_of plant p).actions id.0) in
    let q = control.q (tables_of (chart_of plant p)) a scans in
    cond (control.executed (tables_of (chart_of plant p)) a scans)
    (after_body plant p changes id body (environment plant p life changes t q))
    (Ok changes)

-- The actions one after the other, of which the first has number a: first the Boolean ones, in the order of their first
-- associations, and then the declared ones, in the order of their declarations.
abbrev pub after_actions : PlantData → ProgId → Life → ℤ → ℕ → List Target → List Change → Result (List Change) PlacedFault
after_actions plant p life t a [] changes = Ok changes
after_actions plant p life t a (target ∷ targets) changes =
    and_then (acted plant p life t a target changes) (λ after. after_actions plant p life t (suc a) targets after)

-- ---- the scan

abbrev pub unless : {A : Type 0} → Option PlacedFault → Result A PlacedFault → Result A PlacedFault
unless None r = r
unless (Some f) r = Err f

abbrev pub of_condition : Option TransitionFault → Option PlacedFault
of_condition None = None
of_condition (Some f) = Some (record { fault = fault.Expression f.fault; place = place.Transition f.transition })

abbrev pub of_control : Option ActionFault → Option PlacedFault
of_control None = None
of_control (Some f) = Some (record { fault = fault.Control f.fault; place = place.Action f.action })

-- what the actions do after a scan with this row, or the scan's fault: first of action control, and then of bodies
abbrev pub with_row : PlantData → ProgId → Life → List Change → ℤ → Row → Result (List Change) PlacedFault
with_row plant p life changes t row =
    let tables = tables_of (chart_of plant p) in
    unless (of_control (control.first_fault tables (control_scans tables (row ∷ life))))
    (after_actions plant p (row ∷ life) t 0 tables.actions changes)

-- the row of the next scan
abbrev pub next_row : PlantData → ProgId → Life → List Change → ℤ → Row
next_row plant p life changes t =
    row_of (tables_of (chart_of plant p)) (chart_of plant p) (environment plant p life changes t false) life t

-- the changes by the scan, or its fault: first of the conditions
abbrev pub attempt : PlantData → ProgId → Life → List Change → ℤ → Result (List Change) PlacedFault
attempt plant p life changes t =
    let tables = tables_of (chart_of plant p) in
    let env = environment plant p life changes t false in
    unless (of_condition (condition_fault tables (chart_of plant p) env life tables.ranked))
    (with_row plant p life changes t (next_row plant p life changes t))

-- how the instance stands after a scan, what was done with the image, and how the scan ended
pub record After : Type 0 where
  pub instance_state : InstanceState
  pub changes : List Change
  pub scan_end : ScanEnd

-- a scan that faults has no row, and leaves the image as it was; its fault stands, and where it is
abbrev pub after_attempt : Life → List Change → Row → Result (List Change) PlacedFault → After
after_attempt life changes row (Ok done) =
    record { instance_state = record { life = row ∷ life; fault = None; place = None }; changes = done; scan_end = Ran }
after_attempt life changes row (Err f) =
    record { instance_state = record { life = life; fault = Some f.fault; place = Some f.place }; changes = changes; scan_end = Faulted }

-- after a fault the instance is skipped
abbrev pub unless_faulted : PlantData → ProgId → InstanceState → List Change → ℤ → Option ScanFault → After
unless_faulted plant p instance_state changes t None =
    after_attempt instance_state.life changes (next_row plant p instance_state.life changes t) (attempt plant p instance_state.life changes t)
unless_faulted plant p instance_state changes t (Some f) =
    record { instance_state = instance_state; changes = changes; scan_end = Skipped }

abbrev pub after_scan : PlantData → ProgId → InstanceState → List Change → ℤ → After
after_scan plant p instance_state changes t = unless_faulted plant p instance_state changes t instance_state.fault
