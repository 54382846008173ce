-- What is answered goes by the past of the commands, and so does what they leave.
use Rattle.std.proofs.Common.{◌≡◌, ◌∙◌, inl, inr, ℕ, suc, ◌<◌, arith, Bool, true, false, ◌&&◌, ◌||◌, List, [], ◌∷◌, ◌++◌, length}
use Rattle.std.proofs.Common.{refl, ap, ℤ, Option, Some, None}
use Rattle.std.specs.Prelude.{nat_lt}
use Rattle.std.proofs.lemmas.Bool.{cases_lt}
use Rattle.sfc_base.proofs.ByPlace.{mapped}
use Rattle.sfc_base.specs.declared.ids.ProgId.{ProgId}
use Rattle.sfc_plant.specs.Finding.{chart_of}
use Rattle.sfc_plant.specs.Plants.{PlantData}
use Rattle.sfc_plant.specs.Sound.{IsPlant}
use Rattle.sfc_core.specs.sfc_tables.Tables.{Tabled, tables_of}
use Rattle.sfc_core.specs.sfc_image.Environments.{environment_of}
use Rattle.sfc_core.specs.sfc_image.Values.{variable_count}
use Rattle.sfc_core.proofs.of_sfc_image.Counting.{bool_cases}
use Rattle.sfc_core.proofs.of_sfc_image.Pasts as image
use Rattle.sfc_core.specs.sfc_instance.Answers.{is_step_activated, is_transition_cleared, is_action_executed, step_elapsed}
use Rattle.sfc_core.specs.sfc_instance.Life.{InstanceState, latest_instant}
use Rattle.sfc_core.specs.sfc_instance.Past.{instance_past}
use Rattle.sfc_core.specs.sfc_instance.ProgramScan.{moment}
use Rattle.sfc_core.specs.sfc_instance.declared.scan_end.ScanEnd.TheVariants.{Ran}
use Rattle.sfc_core.specs.sfc_instances.Past.{instances_past}
use Rattle.sfc_core.specs.sfc_instances.PlantState.{PlantState}
use Rattle.sfc_core.proofs.of_sfc_instances.Pasts as all_instances
use Rattle.sfc_events.specs.Commands.{event_of}
use Rattle.sfc_events.specs.History.{History}
use Rattle.sfc_events.specs.declared.command.Answer.TheVariants.{Value}
use Rattle.sfc_events.specs.declared.command.Command.{Command}
use Rattle.sfc_events.specs.declared.command.Command.TheVariants as commands
use Rattle.sfc_events.specs.declared.command.Point.{Point}
use Rattle.sfc_events.specs.declared.command.Point.TheVariants.{Step, Transition, Action}
use Rattle.sfc_events.specs.declared.event.Event.{Event}
use Rattle.sfc_events.specs.declared.event.Event.TheVariants as events
use Rattle.sfc_core.specs.Past.{history_past}
use Rattle.sfc_core.specs.PlantState as core_state
use Rattle.sfc_core.specs.Verdict.{ended, or_then}
use Rattle.sfc_core.proofs.Pasts as core
use Rattle.sfc_debug.specs.declared.break_condition.BreakCondition.{BreakCondition}
use Rattle.sfc_debug.specs.declared.breakpoint.Breakpoint.{Breakpoint}
use Rattle.sfc_debug.specs.Histories.{CommandHistory}
use Rattle.sfc_events.specs.declared.instance_set.InstanceSet.{InstanceSet}
use Rattle.sfc_events.specs.InstanceSets.{has, set_of}
use Rattle.sfc_debug.specs.Hits.{has_happened, holds, environment_after, is_hit, any_hit}
use Rattle.sfc_debug.specs.Meaning.{hits_at}
use Rattle.sfc_debug.specs.Past.{past_in, debug_past}
use Rattle.sfc_debug.specs.Points.{has_point, is_point_of, points_after}
use Rattle.sfc_debug.specs.RunClock.{run_instant}
use Rattle.sfc_debug.specs.States.{DebugState, hits, with_event, clock_after, after_command, state_of}
use Rattle.sfc_debug.specs.Verdict.{end_refusal, clock_refusal, variable_refusal, own_refusal, own_answer, own_verdict}
use Rattle.sfc_debug.specs.Verdict.{answer_by, verdict_at, verdict_by, verdict_in, verdict}

-- ---- hits

-- what an instance shows goes by its past
pub record ShowsByPast : Type 0 where
  pub activated : (tables : Tabled) (one two : InstanceState) (s : ℕ) → s < length tables.initial →
      instance_past tables one ≡ instance_past tables two → is_step_activated tables one s ≡ is_step_activated tables two s
  pub cleared : (tables : Tabled) (one two : InstanceState) (tr : ℕ) →
      instance_past tables one ≡ instance_past tables two → is_transition_cleared tables one tr ≡ is_transition_cleared tables two tr
  pub executed : (tables : Tabled) (one two : InstanceState) (a : ℕ) → a < length tables.actions →
      instance_past tables one ≡ instance_past tables two → is_action_executed tables one a ≡ is_action_executed tables two a
  pub elapsed : (tables : Tabled) (one two : InstanceState) (s : ℕ) → s < length tables.initial →
      instance_past tables one ≡ instance_past tables two → step_elapsed tables one s ≡ step_elapsed tables two s

both : (a b : Bool) → (a && b) ≡ true → (a ≡ true) × (b ≡ true)
both true true e = (refl, refl)
both true false e = absurd cc
both false b e = absurd cc

-- what has none of it
unmet : (a b c d x y : Bool) → a ≡ false → (a && b && c && d) ≡ (a && b && x && y)
unmet true b c d x y e = absurd cc
unmet false b c d x y e = refl

below : (i n : ℕ) → nat_lt i n ≡ true → i < n
below i n e = grind arith

module _ (shows : ShowsByPast) (tables : Tabled) (one two : InstanceState)
    (same : instance_past tables one ≡ instance_past tables two) where
  happened_by : (point : Point) → is_point_of tables point ≡ true → has_happened tables one point ≡ has_happened tables two point
  happened_by (Step s) there = shows.activated tables one two s.0 (below s.0 (length tables.initial) there) same
  happened_by (Transition tr) there = shows.cleared tables one two tr.0 same
  happened_by (Action a) there = shows.executed tables one two a.0 (below a.0 (length tables.actions) there) same

  -- which steps are active, and their times
  moment_by : moment tables one.life (latest_instant one.life) false ≡ moment tables two.life (latest_instant two.life) false
  moment_by =
      let active = ap (λ p. p.steps.active) same in
      let times = mapped (step_elapsed tables one) (step_elapsed tables two) (length tables.initial)
      (λ s lt. shows.elapsed tables one two s lt same) in
      (λ i. record { active = active i; times = times i; q = false })

module _ (shows : ShowsByPast) (plant : PlantData) (table : List BreakCondition) (one two : PlantState)
    (same : instances_past plant one ≡ instances_past plant two) where
  life_by : (p : ProgId) → p.0 < length plant.instances
      → instance_past (tables_of (chart_of plant p)) (one.instance_state p.0)
      ≡ instance_past (tables_of (chart_of plant p)) (two.instance_state p.0)
  life_by p lt = (all_instances.same_tables plant one two same).programs p.0 lt

  environment_by : (p : ProgId) → p.0 < length plant.instances → environment_after plant one p ≡ environment_after plant two p
  environment_by p lt =
      let life = (two.instance_state p.0).life in
      ap (λ m. environment_of plant one.changes p m)
      (moment_by shows (tables_of (chart_of plant p)) (one.instance_state p.0) (two.instance_state p.0) (life_by p lt))
      ∙ image.environment_by plant one.changes two.changes p (ap (λ past. past.variables) same)
      (moment (tables_of (chart_of plant p)) life (latest_instant life) false)

  hit_by : (ran : InstanceSet) (breakpoint : Breakpoint) → is_hit plant table ran one breakpoint ≡ is_hit plant table ran two breakpoint
  unfolding is_hit
  hit_by ran breakpoint =
      let p = breakpoint.program in
      let point = breakpoint.point in
      elim (bool_cases (has_point plant p point)) [
        | inl there ↦ (let parts = both (nat_lt p.0 (length plant.instances)) (is_point_of (tables_of (chart_of plant p)) point) there in
            let lt = below p.0 (length plant.instances) parts.0 in
            let happened = happened_by shows (tables_of (chart_of plant p)) (one.instance_state p.0) (two.instance_state p.0)
            (life_by p lt) point parts.1 in
            let env = environment_by p lt in
            (λ i. has_point plant p point && has ran p.0 && happened i && holds table (env i) breakpoint.condition))
        | inr none ↦ unmet (has_point plant p point) (has ran p.0) _ _ _ _ none
      ]

  any_by : (ran : InstanceSet) (points : List Breakpoint) → any_hit plant table ran one points ≡ any_hit plant table ran two points
  any_by ran [] = refl
  any_by ran (breakpoint ∷ points) =
      let first = hit_by ran breakpoint in
      let rest = any_by ran points in
      (λ i. first i || rest i)

-- ---- one command

module _ (shows : ShowsByPast) (plant : PlantData) (sound : IsPlant plant) (table : List BreakCondition) (h g : History)
    (same : history_past plant h ≡ history_past plant g) where
  hits_by : (command : Command) (t : ℤ) (points : List Breakpoint)
      → hits plant table command t points h ≡ hits plant table command t points g
  hits_by (commands.Scan task) t points =
      let ran = all_instances.bits_by plant task t sound Ran (core_state.state_of plant h) (core_state.state_of plant g)
      (ap (λ p. p.instances) same) in
      let after = core_state.state_of plant ((events.Scan task, t) ∷ h) in
      let next = core.past_next plant sound (events.Scan task, t) h g same in
      (λ i. any_hit plant table (set_of (ran i)) after points)
      ∙ any_by shows plant table after (core_state.state_of plant ((events.Scan task, t) ∷ g)) (ap (λ p. p.instances) next)
      (ended Ran plant g task t) points
  hits_by command t points = refl

  -- what is no event
  own_by : (command : Command) (points : List Breakpoint)
      → own_verdict (own_refusal plant table points command) (own_answer plant h command)
      ≡ own_verdict (own_refusal plant table points command) (own_answer plant g command)
  own_by (commands.Read id) points = elim (cases_lt id.0 (variable_count plant)) [
    | inl lt ↦ ap (λ v. own_verdict (variable_refusal plant id) (Value v)) (core.value_by plant sound h g same id lt)
    | inr le ↦ (let e : nat_lt id.0 (variable_count plant) ≡ false = grind arith in rw e refl)
  ]
  own_by command points = refl

module _ (shows : ShowsByPast) (plant : PlantData) (sound : IsPlant plant) (table : List BreakCondition) (one two : DebugState) (n m : ℕ)
    (same : past_in plant one n ≡ past_in plant two m) where
  -- with what was told to the first
  abbrev between : DebugState
  between = record { clock = two.clock; points = two.points; events = one.events }

  abbrev events_same : history_past plant one.events ≡ history_past plant two.events
  events_same = ap (λ p. p.events) same

  answer_same : (command : Command) (t : ℤ) (event : Option Event)
      → verdict_at plant table between command t event ≡ verdict_at plant table two command t event
  answer_same command t None = own_by shows plant sound table one.events two.events events_same command two.points
  answer_same command t (Some event) =
      let hit = hits_by shows plant sound table one.events two.events events_same command t two.points in
      let answer = core.verdict_cut plant sound event t one.events two.events events_same in
      (λ i. answer_by (hit i) (answer i))

  verdict_same : (command : Command) (raw : ℤ) → verdict_in plant table one n command raw ≡ verdict_in plant table two m command raw
  verdict_same command raw =
      let clock = ap (λ p. p.clock) same in
      let points = ap (λ p. p.points) same in
      let accepted = ap (λ p. p.accepted) same in
      (λ i. verdict_in plant table (record { clock = clock i; points = points i; events = one.events }) (accepted i) command raw)
      ∙ ap (verdict_by (or_then (end_refusal two.clock.mode m) (clock_refusal two.clock command raw)))
      (answer_same command (run_instant two.clock command raw) (event_of command))

  hits_same : (command : Command) (raw : ℤ) → hits_at plant table one command raw ≡ hits_at plant table two command raw
  hits_same command raw =
      let clock = ap (λ p. p.clock) same in
      let points = ap (λ p. p.points) same in
      (λ i. hits plant table command (run_instant (clock i) command raw) (points i) one.events)
      ∙ hits_by shows plant sound table one.events two.events events_same command (run_instant two.clock command raw) two.points

-- ---- lists of commands

module _ (shows : ShowsByPast) (plant : PlantData) (sound : IsPlant plant) (table : List BreakCondition) (h g : CommandHistory)
    (same : debug_past plant table h ≡ debug_past plant table g) where
  pub verdict_by_past : (command : Command) (raw : ℤ) → verdict plant table h command raw ≡ verdict plant table g command raw
  unfolding verdict
  verdict_by_past command raw =
      verdict_same shows plant sound table (state_of plant table h) (state_of plant table g) (length h) (length g) same command raw

  pub hits_by_past : (command : Command) (raw : ℤ)
      → hits_at plant table (state_of plant table h) command raw ≡ hits_at plant table (state_of plant table g) command raw
  hits_by_past command raw =
      hits_same shows plant sound table (state_of plant table h) (state_of plant table g) (length h) (length g) same command raw

pub instant_by_past : (plant : PlantData) (table : List BreakCondition) (h g : CommandHistory) (command : Command) (raw : ℤ)
    → debug_past plant table h ≡ debug_past plant table g
    → run_instant (state_of plant table h).clock command raw ≡ run_instant (state_of plant table g).clock command raw
instant_by_past plant table h g command raw same = ap (λ p. run_instant p.clock command raw) same

-- ---- one command more

module _ (plant : PlantData) (sound : IsPlant plant) (table : List BreakCondition) where
  told_by : (event : Option Event) (t : ℤ) (h g : History) → history_past plant h ≡ history_past plant g
      → history_past plant (with_event event t h) ≡ history_past plant (with_event event t g)
  told_by None t h g same = same
  told_by (Some event) t h g same = core.past_next plant sound (event, t) h g same

  next_same : (one two : DebugState) (n m : ℕ) (command : Command) (raw : ℤ) → past_in plant one n ≡ past_in plant two m
      → hits_at plant table one command raw ≡ hits_at plant table two command raw
      → past_in plant (after_command plant table command raw one) (suc n)
      ≡ past_in plant (after_command plant table command raw two) (suc m)
  next_same one two n m command raw same hit =
      let clock = ap (λ p. p.clock) same in
      let points = ap (λ p. p.points) same in
      let accepted = ap (λ p. p.accepted) same in
      let told =
      ap (λ t. history_past plant (with_event (event_of command) t one.events)) (ap (λ c. run_instant c command raw) clock)
      ∙ told_by (event_of command) (run_instant two.clock command raw) one.events two.events (ap (λ p. p.events) same) in
      (λ i. record {
        clock = clock_after command raw (run_instant (clock i) command raw) (hit i) (clock i);
        points = points_after command (points i);
        accepted = suc (accepted i);
        events = told i;
      })

  pub past_next : (h g : CommandHistory) (command : Command) (raw : ℤ) → debug_past plant table h ≡ debug_past plant table g
      → hits_at plant table (state_of plant table h) command raw ≡ hits_at plant table (state_of plant table g) command raw
      → debug_past plant table ((command, raw) ∷ h) ≡ debug_past plant table ((command, raw) ∷ g)
  unfolding state_of
  past_next h g command raw same hit =
      next_same (state_of plant table h) (state_of plant table g) (length h) (length g) command raw same hit

-- ---- many commands

-- where one command more leaves the same past, so do many
pub past_cut : (plant : PlantData) (table : List BreakCondition)
    → ((h g : CommandHistory) (command : Command) (raw : ℤ) → debug_past plant table h ≡ debug_past plant table g
    → debug_past plant table ((command, raw) ∷ h) ≡ debug_past plant table ((command, raw) ∷ g))
    → (h g later : CommandHistory) → debug_past plant table h ≡ debug_past plant table g
    → debug_past plant table (later ++ h) ≡ debug_past plant table (later ++ g)
past_cut plant table next h g [] same = same
past_cut plant table next h g (timed ∷ later) same =
    next (later ++ h) (later ++ g) timed.0 timed.1 (past_cut plant table next h g later same)
