-- A scan gives variables values of their types.
use Rattle.std.proofs.Common.{◌≡◌, ℕ, zero, suc, Bool, true, false, cond, ℤ, List, [], ◌∷◌, ◌++◌, All, slice_get, Option, Some, None}
use Rattle.std.proofs.Common.{Result, Ok, Err, IfOk, refl}
use Rattle.std.specs.Option.{option_map}
use Rattle.std.proofs.lemmas.List.Elements.{All-nil, All-cons, All-head, All-tail, All-append}
use Rattle.sfc_base.specs.declared.ids.ProgId.{ProgId}
use Rattle.sfc_base.specs.declared.value.Value.TheVariants as value
use Rattle.sfc_base.specs.declared.var_type.VarType.{VarType}
use Rattle.sfc_base.specs.declared.var_type.VarType.TheVariants as types
use Rattle.sfc_expr.specs.declared.fault.Fault.{Fault}
use Rattle.sfc_base.specs.declared.ids.ActionId.{ActionId}
use Rattle.sfc_expr.specs.Environment.{Environment}
use Rattle.sfc_expr.specs.Trees.{Body}
use Rattle.sfc_expr.specs.Effect.{effect}
use Rattle.sfc_image.specs.BodyFaults.{statements_done}
use Rattle.sfc_expr.specs.Types as expr
use Rattle.sfc_expr.proofs.Typed.{effect_typed}
use Rattle.sfc_plant.specs.declared.action.Action.{Action}
use Rattle.sfc_plant.specs.declared.association.Target.{Target}
use Rattle.sfc_plant.specs.declared.association.Target.TheVariants.{Boolean, Declared}
use Rattle.sfc_plant.specs.Plants.{PlantData}
use Rattle.sfc_plant.specs.Finding.{chart_of}
use Rattle.sfc_tables.specs.Tables.{Tabled, tables_of}
use Rattle.sfc_action.specs.ActionControl as control
use Rattle.sfc_image.specs.Changes.{Change}
use Rattle.sfc_image.specs.Environments.{number_of}
use Rattle.sfc_image.specs.Bodies.{assignment, changes_in, stored_to, left_by}
use Rattle.sfc_image.specs.Types.{BeginsTyped, GivesType, AreTimes, type_at, types_of}
use Rattle.sfc_image.proofs.Typed.{environment_typed, left_typed_by}
use Rattle.sfc_instance.specs.declared.scan_fault.ScanFault.{ScanFault}
use Rattle.sfc_instance.specs.Life.{Life, Row, PlacedFault, InstanceState, control_scans}
use Rattle.sfc_instance.specs.ProgramScan.{step_times, moment, environment, body_in, in_body, and_then, after_body, acted, after_actions}
use Rattle.sfc_instance.specs.ProgramScan.{unless, with_row, next_row, attempt, after_attempt, unless_faulted, after_scan}
use Rattle.sfc_instance.specs.Types.{IsTypedTarget, IsTypedInstance, IsInstant, AreInstants}
use Rattle.sfc_instance.proofs.StepTimes.{times_in_range}

same_type : (t u : VarType) → Some t ≡ Some u → u ≡ t
same_type t u e = cc

body_typed : (declared : expr.Declared) (actions : List Action) (i : ℕ)
    → All (λ (action : Action). expr.IsTyped declared action.body) actions → expr.IsTyped declared (body_in (slice_get actions i))
body_typed declared [] i all = tt
body_typed declared (x ∷ xs) zero all = All-head (λ (action : Action). expr.IsTyped declared action.body) x xs all
body_typed declared (x ∷ xs) (suc i) all =
    body_typed declared xs i (All-tail (λ (action : Action). expr.IsTyped declared action.body) x xs all)

module _ (P : List Change → Type 0) where
  followed : (r : Result (List Change) PlacedFault) (next : List Change → Result (List Change) PlacedFault) → IfOk r P
      → ((changes : List Change) → P changes → IfOk (next changes) P) → IfOk (and_then r next) P
  followed (Ok changes) next typed more = more changes typed
  followed (Err f) next typed more = tt

  chosen : (b : Bool) (one other : Result (List Change) PlacedFault) → IfOk one P → IfOk other P → IfOk (cond b one other) P
  chosen true one other h g = h
  chosen false one other h g = g

  unless_typed : (fault : Option PlacedFault) (r : Result (List Change) PlacedFault) → IfOk r P → IfOk (unless fault r) P
  unless_typed None r h = h
  unless_typed (Some f) r h = tt

  attempted : (life : Life) (changes : List Change) (row : Row) (r : Result (List Change) PlacedFault) → P changes → IfOk r P
      → P (after_attempt life changes row r).changes
  attempted life changes row (Ok done) h typed = typed
  attempted life changes row (Err f) h typed = h

module _ (plant : PlantData) (p : ProgId) (begins : BeginsTyped plant) (instance : IsTypedInstance plant p) where
  abbrev tables : Tabled
  tables = tables_of (chart_of plant p)

  abbrev AllTyped : List Change → Type 0
  AllTyped changes = All (GivesType plant) changes

  stored_typed : (q : Bool) (number : Option ℕ) → type_at plant number ≡ Some types.Bool
      → AllTyped (changes_in (option_map (stored_to (value.Bool q)) number))
  stored_typed q None e = All-nil (GivesType plant)
  stored_typed q (Some i) e =
      All-cons (GivesType plant) (stored_to (value.Bool q) i) [] (same_type _ types.Bool e, refl) (All-nil (GivesType plant))

  left_typed : (changes : List Change) (id : ActionId) (body : Body) (env : Environment)
      → expr.GivesTypes (types_of plant p) (effect body env).environment
      → AllTyped changes → IfOk (after_body plant p changes id body env) AllTyped
  left_typed changes id body env gives all = at (effect body env).result
    where
      at : (r : Result (Unit {0}) Fault)
          → IfOk (and_then (in_body id (statements_done body env) r)
          (λ (u : Unit {0}). Ok (left_by plant p (effect body env).environment ++ changes))) AllTyped
      at (Ok u) = All-append (GivesType plant) (left_by plant p (effect body env).environment) changes
          (left_typed_by plant p (effect body env).environment gives) all
      at (Err f) = tt

  module _ (life : Life) (t : ℤ) (times : AreTimes (step_times tables life t)) where
    acted_typed : (a : ℕ) (target : Target) (changes : List Change) → IsTypedTarget (types_of plant p) target → AllTyped changes
        → IfOk (acted plant p life t a target changes) AllTyped
    acted_typed a (Boolean v) changes e all =
        let q = control.q tables a (control_scans tables life) in
        All-append (GivesType plant) (assignment plant p v (value.Bool q)) changes (stored_typed q (number_of plant p v) e) all
    acted_typed a (Declared id) changes e all =
        let q = control.q tables a (control_scans tables life) in
        let body = body_in (slice_get (chart_of plant p).actions id.0) in
        let env = environment plant p life changes t q in
        let gives = environment_typed plant changes p (moment tables life t q) begins all times in
        chosen AllTyped (control.executed tables a (control_scans tables life)) (after_body plant p changes id body env) (Ok changes)
        (left_typed changes id body env
        (effect_typed (types_of plant p) body env gives
        (body_typed (types_of plant p) (chart_of plant p).actions id.0 instance.bodies)) all)
        all

    actions_typed : (a : ℕ) (targets : List Target) (changes : List Change) → All (IsTypedTarget (types_of plant p)) targets
        → AllTyped changes → IfOk (after_actions plant p life t a targets changes) AllTyped
    actions_typed a [] changes each all = all
    actions_typed a (target ∷ targets) changes each all =
        followed AllTyped (acted plant p life t a target changes) (λ after. after_actions plant p life t (suc a) targets after)
        (acted_typed a target changes (All-head (IsTypedTarget (types_of plant p)) target targets each) all)
        (λ after typed. actions_typed (suc a) targets after (All-tail (IsTypedTarget (types_of plant p)) target targets each) typed)

  pub scan_typed : (instance_state : InstanceState) (changes : List Change) (t : ℤ) → AreInstants instance_state.life → IsInstant t
      → AllTyped changes → AllTyped (after_scan plant p instance_state changes t).changes
  scan_typed instance_state changes t each here all = by_fault instance_state.fault
    where
      by_fault : (fault : Option ScanFault) → AllTyped (unless_faulted plant p instance_state changes t fault).changes
      by_fault (Some f) = all
      by_fault None =
          let life = instance_state.life in
          let row = next_row plant p life changes t in
          let times = times_in_range tables (row ∷ life) t (All-cons (λ (x : Row). IsInstant x.at) row life here each) here in
          attempted AllTyped life changes row (attempt plant p life changes t) all
          (unless_typed AllTyped _ (with_row plant p life changes t row)
          (unless_typed AllTyped _ (after_actions plant p (row ∷ life) t 0 tables.actions changes)
          (actions_typed (row ∷ life) t times 0 tables.actions changes instance.targets all)))

pub scan_instants : (plant : PlantData) (p : ProgId) (instance_state : InstanceState) (changes : List Change) (t : ℤ)
    → AreInstants instance_state.life → IsInstant t → AreInstants (after_scan plant p instance_state changes t).instance_state.life
scan_instants plant p instance_state changes t each here = by_fault instance_state.fault
  where
    by_attempt : (r : Result (List Change) PlacedFault)
        → AreInstants (after_attempt instance_state.life changes (next_row plant p instance_state.life changes t) r).instance_state.life
    by_attempt (Ok done) =
        All-cons (λ (x : Row). IsInstant x.at) (next_row plant p instance_state.life changes t) instance_state.life here each
    by_attempt (Err f) = each

    by_fault : (fault : Option ScanFault)
        → AreInstants (unless_faulted plant p instance_state changes t fault).instance_state.life
    by_fault (Some f) = each
    by_fault None = by_attempt (attempt plant p instance_state.life changes t)
