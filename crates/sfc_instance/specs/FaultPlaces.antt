-- What is found at the place of a fault.
use Rattle.std.specs.Prelude.{ℕ, ◌≡◌, ◌∷◌, Bool, true, false, List, take, ℤ, Some, slice_get, Ok}
use Rattle.std.specs.Option.{option_map}
use Rattle.std.specs.Result.{result_err}
use Rattle.sfc_base.specs.declared.ids.ActionId.{ActionId}
use Rattle.sfc_base.specs.declared.ids.ProgId.{ProgId}
use Rattle.sfc_expr.specs.Environment.{Environment}
use Rattle.sfc_expr.specs.Effect.{effect}
use Rattle.sfc_expr.specs.Trees.{Body}
use Rattle.sfc_plant.specs.declared.association.Target.TheVariants.{Declared}
use Rattle.sfc_plant.specs.Plants.{PlantData}
use Rattle.sfc_plant.specs.Finding.{chart_of}
use Rattle.sfc_tables.specs.Tables.{tables_of}
use Rattle.sfc_action.specs.ActionControl as control
use Rattle.sfc_image.specs.Changes.{Change}
use Rattle.sfc_image.specs.BodyFaults.{faulty_statement}
use Rattle.sfc_instance.specs.declared.fault_place.FaultPlace.{FaultPlace}
use Rattle.sfc_instance.specs.declared.fault_place.FaultPlace.TheVariants.{Transition, Action, Statement}
use Rattle.sfc_instance.specs.declared.scan_fault.ScanFault.{ScanFault}
use Rattle.sfc_instance.specs.declared.scan_fault.ScanFault.TheVariants.{Expression, Control}
use Rattle.sfc_instance.specs.Life.{Life, control_scans}
use Rattle.sfc_instance.specs.ProgramScan.{environment, fault_at, next_row, body_in, after_actions}

abbrev pub body_of : PlantData → ProgId → ActionId → Body
body_of plant p id = body_in (slice_get (chart_of plant p).actions id.0)

-- the action is executed in the scan
abbrev pub is_executed : PlantData → ProgId → Life → ℕ → Bool
is_executed plant p life a = control.executed (tables_of (chart_of plant p)) a (control_scans (tables_of (chart_of plant p)) life)

-- what the body of action a reads, over these changes
abbrev pub body_environment : PlantData → ProgId → Life → List Change → ℤ → ℕ → Environment
body_environment plant p life changes t a =
    environment plant p life changes t (control.q (tables_of (chart_of plant p)) a (control_scans (tables_of (chart_of plant p)) life))

-- The body of this action is executed over what the actions before it left, and this statement of it has the fault. `life` has the
-- scan's own row.
pub record IsInBody (plant : PlantData) (p : ProgId) (life : Life) (changes : List Change) (t : ℤ) (id : ActionId) (statement : ℕ)
    (fault : ScanFault) : Type 0 where
  pub a : ℕ
  pub before : List Change
  pub action : slice_get (tables_of (chart_of plant p)).actions a ≡ Some (Declared id)
  pub earlier : after_actions plant p life t 0 (take a (tables_of (chart_of plant p)).actions) changes ≡ Ok before
  pub executed : is_executed plant p life a ≡ true
  pub there : faulty_statement (body_of plant p id) (body_environment plant p life before t a) ≡ Some statement
  pub ends : option_map (λ f. Expression f) (result_err (effect (body_of plant p id) (body_environment plant p life before t a)).result) ≡ Some fault

-- In the scan at t of an instance with this life, after these changes, this fault is found there: in the condition of an enabled
-- transition, in the control block of an action, or in a statement of a body.
abbrev pub IsFoundAt : PlantData → ProgId → Life → List Change → ℤ → FaultPlace → ScanFault → Type 0
IsFoundAt plant p life changes t (Transition tr) fault =
    option_map (λ f. Expression f)
    (fault_at (tables_of (chart_of plant p)) (chart_of plant p) (environment plant p life changes t false) life tr.0) ≡ Some fault
IsFoundAt plant p life changes t (Action action) fault =
    let tables = tables_of (chart_of plant p) in
    option_map (λ f. Control f) (control.fault_of tables action.0 (control_scans tables (next_row plant p life changes t ∷ life))) ≡ Some fault
IsFoundAt plant p life changes t (Statement id statement) fault =
    IsInBody plant p (next_row plant p life changes t ∷ life) changes t id statement fault
