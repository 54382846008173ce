-- How a scan ends.
use Rattle.std.proofs.Common.{◌≡◌, ◌∷◌, true, false, List, ℤ, Option, Some, None, is_some, Result, Ok, Err, refl, sym, ap, subst, ◌∙◌}
use Rattle.std.specs.Result.{is_err}
use Rattle.sfc_expr.specs.declared.fault.Fault.{Fault}
use Rattle.sfc_expr.specs.Environment.{Environment}
use Rattle.sfc_plant.specs.declared.chart.Chart.{Chart}
use Rattle.sfc_tables.specs.Tables.{Tabled, tables_of}
use Rattle.sfc_action.specs.ActionControl as control
use Rattle.sfc_action.specs.declared.fault.ActionFault.{ActionFault}
use Rattle.sfc_instance.specs.declared.conditions.TransitionFault.{TransitionFault}
use Rattle.sfc_instance.specs.declared.fault_place.FaultPlace.{FaultPlace}
use Rattle.sfc_instance.specs.declared.fault_place.FaultPlace.TheVariants as place
use Rattle.sfc_base.specs.declared.ids.ProgId.{ProgId}
use Rattle.sfc_plant.specs.Plants.{PlantData}
use Rattle.sfc_image.specs.declared.image.Image.{Image}
use Rattle.sfc_image.specs.Changes.{Change, settled}
use Rattle.sfc_image.specs.Agreement.{ImageAgrees}
use Rattle.sfc_instance.specs.declared.scan_fault.ScanFault.{ScanFault}
use Rattle.sfc_instance.specs.declared.scan_fault.ScanFault.TheVariants as fault
use Rattle.sfc_instance.specs.declared.scan_end.ScanEnd.TheVariants.{Ran, Faulted}
use Rattle.sfc_instance.specs.declared.program_context.ProgramContext.{ProgramContext}
use Rattle.sfc_instance.specs.declared.state.State.{State}
use Rattle.sfc_instance.specs.Life.{Life, Row, PlacedFault, InstanceState, control_scans}
use Rattle.sfc_plant.specs.Finding.{chart_of}
use Rattle.sfc_instance.specs.Contexts.{IsContextOf}
use Rattle.sfc_instance.specs.ProgramScan.{after_actions, after_attempt, after_scan, attempt, condition_fault, environment, next_row}
use Rattle.sfc_instance.specs.ProgramScan.{of_condition, of_control, unless, unless_faulted, with_row}
use Rattle.sfc_instance.specs.Agreement.{StateAgrees}
use Rattle.sfc_instance.specs.Private.Acting.{HasActedSo, IsStop}
use Rattle.sfc_instance.specs.Private.Scanning.{HasScanned, Leaves_scan, Moves}
use Rattle.sfc_instance.proofs.Readings.{tables_is}

-- ---- the steps and the action control

pub moved_ok : (tables : Tabled) (life : Life) (answer : Result (Unit {0}) Fault) (old new : State) → is_err answer ≡ false
    → StateAgrees tables new life → Moves tables life answer old new
unfolding Moves
moved_ok tables life (Ok u) old new on h = h
moved_ok tables life (Err f) old new on h = absurd cc

pub moved_err : (tables : Tabled) (life : Life) (answer : Result (Unit {0}) Fault) (old new : State) → is_err answer ≡ true
    → new ≡ old → Moves tables life answer old new
unfolding Moves
moved_err tables life (Ok u) old new off h = absurd cc
moved_err tables life (Err f) old new off h = h

module _ (plant : PlantData) (context : ProgramContext) (is : IsContextOf plant context) (life : Life) (changes : List Change) (t : ℤ) where
  abbrev p : ProgId
  p = context.instance

  abbrev wanted : Row → Result (List Change) PlacedFault
  wanted row = after_actions plant p (row ∷ life) t 0 context.tables.now.actions changes

  row_of_control : (row : Row) (o : Option ActionFault) → o ≡ control.first_fault context.tables.now (control_scans context.tables.now (row ∷ life))
      → with_row plant p life changes t row ≡ unless (of_control o) (wanted row)
  row_of_control row o e =
      sym (ap (λ (x : Option ActionFault). unless (of_control x) (wanted row)) e
      ∙ ap (λ (x : Tabled). unless (of_control (control.first_fault x (control_scans x (row ∷ life))))
      (after_actions plant p (row ∷ life) t 0 x.actions changes)) (tables_is plant context is))

  -- action control has a fault
  pub control_ends : (row : Row) (f : ActionFault) (state : State) (image : Image)
      → Some f ≡ control.first_fault context.tables.now (control_scans context.tables.now (row ∷ life))
      → StateAgrees context.tables.now state life → ImageAgrees plant image (settled changes)
      → HasScanned plant context.tables.now life changes row state image (Err (fault.Control f.fault)) (Some (place.Action f.action))
      (with_row plant p life changes t row)
  unfolding HasScanned
  control_ends row f state image e s h =
      (record { there = place.Action f.action; kept = refl; fault = row_of_control row (Some f) e }, s, h)

  -- a body has a fault
  pub body_ends : (row : Row) (f : Fault) (answer : Result (Unit {0}) Fault) (old new : State) (image : Image) (place : Option FaultPlace)
      → None ≡ control.first_fault context.tables.now (control_scans context.tables.now (row ∷ life))
      → answer ≡ Err f → Moves context.tables.now (row ∷ life) answer old new
      → HasActedSo plant changes image answer place (wanted row) → StateAgrees context.tables.now old life
      → HasScanned plant context.tables.now life changes row new image (Err (fault.Expression f)) place (with_row plant p life changes t row)
  unfolding HasScanned HasActedSo Moves
  body_ends row f answer old new image place e is_err moves acted s =
      let stays : new ≡ old = subst (λ (a : Result (Unit {0}) Fault). Moves context.tables.now (row ∷ life) a old new) is_err moves in
      let left = subst (λ (a : Result (Unit {0}) Fault). HasActedSo plant changes image a place (wanted row)) is_err acted in (
        record { there = left.0.there; kept = left.0.kept; fault = row_of_control row None e ∙ left.0.fault },
        subst (λ (x : State). StateAgrees context.tables.now x life) (sym stays) s,
        left.1,
      )

  -- no fault ended it
  pub ends_well : (row : Row) (u : Unit {0}) (answer : Result (Unit {0}) Fault) (old new : State) (image : Image) (place : Option FaultPlace)
      → None ≡ control.first_fault context.tables.now (control_scans context.tables.now (row ∷ life))
      → answer ≡ Ok u → Moves context.tables.now (row ∷ life) answer old new
      → HasActedSo plant changes image answer place (wanted row)
      → HasScanned plant context.tables.now life changes row new image (Ok tt) place (with_row plant p life changes t row)
  unfolding HasScanned HasActedSo Moves
  ends_well row u answer old new image place e is_ok moves acted =
      let moved : StateAgrees context.tables.now new (row ∷ life) =
      subst (λ (a : Result (Unit {0}) Fault). Moves context.tables.now (row ∷ life) a old new) is_ok moves in
      let left = subst (λ (a : Result (Unit {0}) Fault). HasActedSo plant changes image a place (wanted row)) is_ok acted in
      (left.0, row_of_control row None e ∙ left.1, moved, left.2)

  -- ---- the conditions

  attempt_of_condition : (o : Option TransitionFault)
      → o ≡ condition_fault context.tables.now context.chart.now (environment plant p life changes t false) life context.tables.now.ranked
      → attempt plant p life changes t ≡ unless (of_condition o) (with_row plant p life changes t (next_row plant p life changes t))
  attempt_of_condition o e =
      let rest = with_row plant p life changes t (next_row plant p life changes t) in
      let env : Environment = environment plant p life changes t false in
      sym (ap (λ (x : Option TransitionFault). unless (of_condition x) rest) e
      ∙ ap (λ (x : Tabled). unless (of_condition (condition_fault x context.chart.now env life x.ranked)) rest) (tables_is plant context is)
      ∙ ap (λ (x : Chart). unless (of_condition (condition_fault (tables_of (chart_of plant p)) x env life (tables_of (chart_of plant p)).ranked)) rest) is.chart)

  -- a condition has a fault
  pub condition_ends : (row : Row) (f : TransitionFault) (state : State) (image : Image)
      → Some f ≡ condition_fault context.tables.now context.chart.now (environment plant p life changes t false) life context.tables.now.ranked
      → StateAgrees context.tables.now state life → ImageAgrees plant image (settled changes)
      → HasScanned plant context.tables.now life changes row state image (Err (fault.Expression f.fault)) (Some (place.Transition f.transition))
      (attempt plant p life changes t)
  unfolding HasScanned
  condition_ends row f state image e s h =
      (record { there = place.Transition f.transition; kept = refl; fault = attempt_of_condition (Some f) e }, s, h)

  -- the conditions have none
  pub goes_on : (row : Row) (answer : Result (Unit {0}) ScanFault) (place : Option FaultPlace) (state : State) (image : Image)
      → None ≡ condition_fault context.tables.now context.chart.now (environment plant p life changes t false) life context.tables.now.ranked
      → row ≡ next_row plant p life changes t
      → HasScanned plant context.tables.now life changes row state image answer place (with_row plant p life changes t row)
      → HasScanned plant context.tables.now life changes (next_row plant p life changes t) state image answer place (attempt plant p life changes t)
  goes_on row answer place state image e same h =
      subst (λ (w : Result (List Change) PlacedFault).
      HasScanned plant context.tables.now life changes (next_row plant p life changes t) state image answer place w)
      (sym (attempt_of_condition None e))
      (subst (λ (r : Row). HasScanned plant context.tables.now life changes r state image answer place (with_row plant p life changes t r)) same h)

-- ---- the answers of a scan

module _ (plant : PlantData) (tables : Tabled) (life : Life) (before : List Change) (row : Row) (state : State) (image : Image)
    (answer : Result (Unit {0}) ScanFault) (place : Option FaultPlace) (wanted : Result (List Change) PlacedFault) where
  pub scan_ran : (u : Unit {0}) → answer ≡ Ok u → HasScanned plant tables life before row state image answer place wanted
      → (done : List Change) × (wanted ≡ Ok done) × StateAgrees tables state (row ∷ life) × ImageAgrees plant image (settled done)
  unfolding HasScanned
  scan_ran u e h = subst (λ (a : Result (Unit {0}) ScanFault). Leaves_scan plant tables life before row state image a place wanted) e h

  pub scan_faulted : (f : ScanFault) → answer ≡ Err f → HasScanned plant tables life before row state image answer place wanted
      → IsStop f place wanted × StateAgrees tables state life × ImageAgrees plant image (settled before)
  unfolding HasScanned
  scan_faulted f e h = subst (λ (a : Result (Unit {0}) ScanFault). Leaves_scan plant tables life before row state image a place wanted) e h

pub no_fault : (o : Option ScanFault) → false ≡ is_some o → o ≡ None
no_fault None e = refl
no_fault (Some f) e = cc

-- how the instance stands after a scan, where no fault stood before it
module _ (plant : PlantData) (p : ProgId) (instance_state : InstanceState) (changes : List Change) (t : ℤ) (on : instance_state.fault ≡ None) where
  abbrev row : Row
  row = next_row plant p instance_state.life changes t

  unfaulted : after_scan plant p instance_state changes t ≡ after_attempt instance_state.life changes row (attempt plant p instance_state.life changes t)
  unfaulted = ap (λ (o : Option ScanFault). unless_faulted plant p instance_state changes t o) on

  pub after_run : (done : List Change) → attempt plant p instance_state.life changes t ≡ Ok done
      → after_scan plant p instance_state changes t
      ≡ record { instance_state = record { life = row ∷ instance_state.life; fault = None; place = None }; changes = done; scan_end = Ran }
  after_run done e = unfaulted ∙ ap (λ (r : Result (List Change) PlacedFault). after_attempt instance_state.life changes row r) e

  pub after_fault : (f : PlacedFault) → attempt plant p instance_state.life changes t ≡ Err f
      → after_scan plant p instance_state changes t
      ≡ record {
        instance_state = record { life = instance_state.life; fault = Some f.fault; place = Some f.place };
        changes = changes;
        scan_end = Faulted;
      }
  after_fault f e = unfaulted ∙ ap (λ (r : Result (List Change) PlacedFault). after_attempt instance_state.life changes row r) e
