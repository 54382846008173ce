-- A longer table of conditions changes nothing for what names only the first ones.
use Rattle.std.proofs.Common.{◌≡◌, ◌∙◌, refl, sym, ap, subst, ℕ, suc, ◌<◌, ◌&&◌, ◌||◌, List, [], ◌∷◌, ◌++◌, length, take, drop, All, ℤ}
use Rattle.std.proofs.Common.{Option, Some, None}
use Rattle.std.specs.Prelude.{⊤, not, Result, Ok, Err, OnErr}
use Rattle.std.proofs.lemmas.List.Elements.{All-append, All-set, All-take, All-drop, All-nil, All-cons, All-head, All-tail}
use Rattle.circular_buffer.proofs.Places.{slice_get-append_left}
use Rattle.sfc_base.specs.declared.ids.ProgId.{ProgId}
use Rattle.sfc_expr.specs.Environment.{Environment}
use Rattle.sfc_plant.specs.Finding.{chart_of}
use Rattle.sfc_plant.specs.Plants.{PlantData}
use Rattle.sfc_core.specs.sfc_tables.Tables.{tables_of}
use Rattle.sfc_events.specs.Commands.{event_of}
use Rattle.sfc_events.specs.History.{History}
use Rattle.sfc_events.specs.declared.command.Command.{Command}
use Rattle.sfc_events.specs.declared.command.Command.TheVariants as commands
use Rattle.sfc_events.specs.declared.command.CondId.{CondId}
use Rattle.sfc_events.specs.declared.command.Point.{Point}
use Rattle.sfc_events.specs.declared.event.Event.{Event}
use Rattle.sfc_events.specs.declared.refusal.Refusal.TheVariants.{NoSuchCondition}
use Rattle.sfc_events.specs.declared.event.Event.TheVariants as events
use Rattle.sfc_core.specs.sfc_instance.declared.scan_end.ScanEnd.TheVariants.{Ran}
use Rattle.sfc_core.specs.sfc_instances.PlantState.{PlantState}
use Rattle.sfc_core.specs.Agreement as core_agreement
use Rattle.sfc_core.specs.declared.resource.Resource.{Resource}
use Rattle.sfc_core.specs.PlantState as core_state
use Rattle.sfc_core.specs.Verdict as core
use Rattle.sfc_core.specs.Verdict.{ended, or_then, refused_if}
use Rattle.sfc_debug.specs.declared.break_condition.BreakCondition.{BreakCondition}
use Rattle.sfc_debug.specs.declared.breakpoint.Breakpoint.{Breakpoint}
use Rattle.sfc_debug.specs.declared.debugger.Debugger.{Debugger}
use Rattle.sfc_debug.specs.Agreement.{Agrees, plant_of, table_of}
use Rattle.sfc_debug.specs.Histories.{CommandHistory}
use Rattle.sfc_events.specs.declared.instance_set.InstanceSet.{InstanceSet}
use Rattle.sfc_events.specs.InstanceSets.{has}
use Rattle.sfc_debug.specs.Hits.{has_happened, is_met, holds, environment_after, is_hit, any_hit}
use Rattle.sfc_debug.specs.Longer.{IsNamedWithin, NamesWithin}
use Rattle.sfc_debug.specs.Points.{has_point, place_of, put_at, with_breakpoint, without_place, points_after}
use Rattle.sfc_debug.specs.RunClock.{run_instant}
use Rattle.sfc_debug.specs.States.{DebugState, hits, with_event, clock_after, after_command, state_of}
use Rattle.sfc_debug.specs.Verdict.{point_refusal, room_refusal, is_condition_of, own_refusal, own_answer, own_verdict}
use Rattle.sfc_debug.specs.Verdict.{answer_by, verdict_at, verdict_by, verdict_in, verdict, end_refusal, clock_refusal}

module _ (plant : PlantData) (table more : List BreakCondition) where
  abbrev longer : List BreakCondition
  longer = table ++ more

  -- none, or one of the table
  abbrev IsOf : Option CondId → Type 0
  IsOf None = ⊤
  IsOf (Some id) = id.0 < length table

  abbrev IsNamed : Breakpoint → Type 0
  IsNamed breakpoint = IsOf breakpoint.condition

  -- ---- hits

  holds_same : (env : Environment) (condition : Option CondId) → IsOf condition → holds longer env condition ≡ holds table env condition
  holds_same env None named = refl
  holds_same env (Some id) named = ap (is_met env) (slice_get-append_left table more id.0 named)

  hit_same : (ran : InstanceSet) (state : PlantState) (breakpoint : Breakpoint) → IsNamed breakpoint
      → is_hit plant longer ran state breakpoint ≡ is_hit plant table ran state breakpoint
  unfolding is_hit
  hit_same ran state breakpoint named =
      let p = breakpoint.program in
      let met = holds_same (environment_after plant state p) breakpoint.condition named in
      (λ i. has_point plant p breakpoint.point && has ran p.0
      && has_happened (tables_of (chart_of plant p)) (state.instance_state p.0) breakpoint.point && met i)

  any_same : (ran : InstanceSet) (state : PlantState) (set : List Breakpoint) → All IsNamed set
      → any_hit plant longer ran state set ≡ any_hit plant table ran state set
  any_same ran state [] named = refl
  any_same ran state (breakpoint ∷ set) named =
      let first = hit_same ran state breakpoint (All-head IsNamed breakpoint set named) in
      let rest = any_same ran state set (All-tail IsNamed breakpoint set named) in
      (λ i. first i || rest i)

  hits_same : (command : Command) (t : ℤ) (set : List Breakpoint) (h : History) → All IsNamed set
      → hits plant longer command t set h ≡ hits plant table command t set h
  hits_same (commands.Scan task) t set h named =
      any_same (ended Ran plant h task t) (core_state.state_of plant ((events.Scan task, t) ∷ h)) set named
  hits_same command t set h named = refl

  -- ---- breakpoints

  put : (place : Option ℕ) (breakpoint : Breakpoint) (set : List Breakpoint) → IsNamed breakpoint → All IsNamed set
      → All IsNamed (put_at place breakpoint set)
  put None breakpoint set one all =
      All-append IsNamed set (breakpoint ∷ []) all (All-cons IsNamed breakpoint [] one (All-nil IsNamed))
  put (Some k) breakpoint set one all = All-set IsNamed set k breakpoint one all

  taken_out : (place : Option ℕ) (set : List Breakpoint) → All IsNamed set → All IsNamed (without_place place set)
  taken_out None set all = all
  taken_out (Some k) set all =
      All-append IsNamed (take k set) (drop (suc k) set) (All-take IsNamed k set all) (All-drop IsNamed (suc k) set all)

  set_by : (p : ProgId) (point : Point) (condition : Option CondId) (set : List Breakpoint) → IsOf condition → All IsNamed set
      → All IsNamed (with_breakpoint (record { program = p; point = point; condition = condition }) set)
  set_by p point condition set one all =
      put (place_of p point set) (record { program = p; point = point; condition = condition }) set one all

  points_named : (command : Command) (set : List Breakpoint) → IsNamedWithin (length table) command → All IsNamed set
      → All IsNamed (points_after command set)
  points_named (commands.Break p point) set one all = set_by p point None set tt all
  points_named (commands.BreakIf p point id) set one all = set_by p point (Some id) set one all
  points_named (commands.Unbreak p point) set one all = taken_out (place_of p point set) set all
  points_named (commands.Scan task) set one all = all
  points_named (commands.Single task delta) set one all = all
  points_named (commands.Input id v) set one all = all
  points_named (commands.Force id v) set one all = all
  points_named (commands.Release id) set one all = all
  points_named (commands.Reset p) set one all = all
  points_named (commands.Read id) set one all = all
  points_named commands.Stop set one all = all
  points_named commands.Go set one all = all
  points_named commands.End set one all = all
  points_named commands.Epoch set one all = all

  -- ---- states

  all_named : (h : CommandHistory) → NamesWithin (length table) h → All IsNamed (state_of plant table h).points
  unfolding state_of
  all_named [] named = All-nil IsNamed
  all_named (timed ∷ h) named = points_named timed.0 (state_of plant table h).points named.0 (all_named h named.1)

  after_same : (command : Command) (raw : ℤ) (state : DebugState) → All IsNamed state.points
      → after_command plant longer command raw state ≡ after_command plant table command raw state
  after_same command raw state named =
      let t = run_instant state.clock command raw in
      let hit = hits_same command t state.points state.events named in
      (λ i. record {
        clock = clock_after command raw t (hit i) state.clock;
        points = points_after command state.points;
        events = with_event (event_of command) t state.events;
      })

  pub state_same : (h : CommandHistory) → NamesWithin (length table) h → state_of plant longer h ≡ state_of plant table h
  unfolding state_of
  state_same [] named = refl
  state_same (timed ∷ h) named =
      ap (after_command plant longer timed.0 timed.1) (state_same h named.1)
      ∙ after_same timed.0 timed.1 (state_of plant table h) (all_named h named.1)

  -- ---- verdicts

  own_same : (command : Command) (set : List Breakpoint) → IsNamedWithin (length table) command
      → own_refusal plant longer set command ≡ own_refusal plant table set command
  own_same (commands.BreakIf p point id) set named =
      let entry = slice_get-append_left table more id.0 named in
      (λ i. or_then (point_refusal plant p point) (or_then (refused_if (not (is_condition_of p (entry i))) NoSuchCondition) (room_refusal p point set)))
  own_same (commands.Break p point) set named = refl
  own_same (commands.Unbreak p point) set named = refl
  own_same (commands.Scan task) set named = refl
  own_same (commands.Single task delta) set named = refl
  own_same (commands.Input id v) set named = refl
  own_same (commands.Force id v) set named = refl
  own_same (commands.Release id) set named = refl
  own_same (commands.Reset p) set named = refl
  own_same (commands.Read id) set named = refl
  own_same commands.Stop set named = refl
  own_same commands.Go set named = refl
  own_same commands.End set named = refl
  own_same commands.Epoch set named = refl

  answer_same : (state : DebugState) (command : Command) (t : ℤ) (event : Option Event) → All IsNamed state.points
      → IsNamedWithin (length table) command
      → verdict_at plant longer state command t event ≡ verdict_at plant table state command t event
  answer_same state command t None all named =
      ap (λ refusal. own_verdict refusal (own_answer plant state.events command)) (own_same command state.points named)
  answer_same state command t (Some event) all named =
      ap (λ hit. answer_by hit (core.verdict plant state.events event t)) (hits_same command t state.points state.events all)

  pub verdict_same : (h : CommandHistory) (command : Command) (raw : ℤ) → NamesWithin (length table) h
      → IsNamedWithin (length table) command → verdict plant longer h command raw ≡ verdict plant table h command raw
  unfolding verdict
  verdict_same h command raw named one =
      let state = state_of plant table h in
      ap (λ state. verdict_in plant longer state (length h) command raw) (state_same h named)
      ∙ ap (verdict_by (or_then (end_refusal state.clock.mode (length h)) (clock_refusal state.clock command raw)))
      (answer_same state command (run_instant state.clock command raw) (event_of command) (all_named h named) one)

-- ---- debuggers

module _ (old new : Debugger) (h : CommandHistory) (resource : new.resource ≡ old.resource) (points : new.points ≡ old.points)
    (clock : new.clock ≡ old.clock) (accepted : new.accepted ≡ old.accepted) where
  -- with the same resource, where both tables give the same states
  by_states : state_of (plant_of new) (table_of new) h ≡ state_of (plant_of old) (table_of old) h → Agrees old h → Agrees new h
  unfolding Agrees
  by_states same k = record {
    clock = clock ∙ k.clock ∙ sym (ap (λ (s : DebugState). s.clock) same);
    points = points ∙ k.points ∙ sym (ap (λ (s : DebugState). s.points) same);
    accepted = accepted ∙ k.accepted;
    resource =
        subst (λ (r : Resource). core_agreement.Agrees r (state_of (plant_of new) (table_of new) h).events) (sym resource)
        (subst (λ (s : DebugState). core_agreement.Agrees old.resource s.events) (sym same) k.resource);
  }

  same_plant : plant_of new ≡ plant_of old
  unfolding plant_of
  same_plant = ap (λ (r : Resource). core_agreement.plant_of r) resource

  pub longer_agrees : (more : List BreakCondition) → table_of new ≡ table_of old ++ more → NamesWithin (length (table_of old)) h
      → Agrees old h → Agrees new h
  longer_agrees more e named =
      by_states
      (ap (λ (plant : PlantData). state_of plant (table_of new) h) same_plant
      ∙ ap (λ (table : List BreakCondition). state_of (plant_of old) table h) e
      ∙ state_same (plant_of old) (table_of old) more h named)

  pub shorter_agrees : (more : List BreakCondition) → table_of old ≡ table_of new ++ more → NamesWithin (length (table_of new)) h
      → Agrees old h → Agrees new h
  shorter_agrees more e named =
      by_states
      (ap (λ (plant : PlantData). state_of plant (table_of new) h) same_plant
      ∙ sym (state_same (plant_of old) (table_of new) more h named)
      ∙ sym (ap (λ (table : List BreakCondition). state_of (plant_of old) table h) e))

  pub same_agrees : table_of new ≡ table_of old → Agrees old h → Agrees new h
  same_agrees e =
      by_states
      (ap (λ (plant : PlantData). state_of plant (table_of new) h) same_plant
      ∙ ap (λ (table : List BreakCondition). state_of (plant_of old) table h) e)

pub if_err : {T E : Type 0} (r : Result T E) (P : Type 0) → P → OnErr r P
if_err (Ok x) P p = tt
if_err (Err e) P p = p
