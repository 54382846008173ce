-- What is known of a command that was accepted: its instant, and what it names.
use Rattle.std.proofs.Common.{◌≡◌, refl, subst, Bool, true, false, ◌||◌, ℤ, pos, ◌≤ℤ◌, ◌+ℤ◌, int_lt, ◌^◌, ◌<◌, ◌≤◌, nat_lt, arith, List, [], ◌∷◌, length, Option, Some, None, Result, Ok, Err, rules}
use Rattle.std.specs.Prelude.{IsOk, unsigned_abs}
use Rattle.std.proofs.lemmas.Bool.Decides.{nat_tests}
use Rattle.std.proofs.lemmas.Int.{ints}
use Rattle.sfc_base.specs.declared.ids.ProgId.{ProgId}
use Rattle.sfc_base.specs.declared.ids.TaskId.{TaskId}
use Rattle.sfc_base.specs.Durations.{greatest}
use Rattle.sfc_plant.specs.Plants.{PlantData}
use Rattle.sfc_events.specs.declared.command.Command.{Command}
use Rattle.sfc_events.specs.declared.command.Command.TheVariants as commands
use Rattle.sfc_events.specs.declared.command.CondId.{CondId}
use Rattle.sfc_events.specs.declared.command.Point.{Point}
use Rattle.sfc_events.specs.declared.event.Event.{Event}
use Rattle.sfc_events.specs.declared.event.Event.TheVariants as events
use Rattle.sfc_events.specs.declared.event.Outcome.{Outcome}
use Rattle.sfc_events.specs.Commands.{event_of}
use Rattle.sfc_events.specs.History.{History, last_instant}
use Rattle.sfc_events.specs.declared.refusal.Refusal.{Refusal}
use Rattle.sfc_events.specs.declared.refusal.Refusal.TheVariants.{ClockBack, InstantRange, UnknownProgram, UnknownTask}
use Rattle.sfc_asking.specs.sfc_core.PlantState as core_state
use Rattle.sfc_asking.specs.sfc_core.Verdict as core
use Rattle.sfc_asking.specs.sfc_core.Verdict.{event_refusal, first_refusal, instant_refusal, is_out_of_range, or_then, program_refusal, refused_if}
use Rattle.sfc_asking.specs.sfc_debug.declared.break_condition.BreakCondition.{BreakCondition}
use Rattle.sfc_asking.specs.sfc_debug.declared.mode.Mode.{Mode}
use Rattle.sfc_asking.specs.sfc_debug.declared.mode.Mode.TheVariants as modes
use Rattle.sfc_asking.specs.sfc_debug.declared.run_clock.RunClock.{RunClock}
use Rattle.sfc_asking.specs.sfc_debug.Histories.{CommandHistory, TimedCommand}
use Rattle.sfc_asking.specs.sfc_debug.Meaning.{IsAccepted}
use Rattle.sfc_asking.specs.sfc_debug.Private.Ranges.{IsInRange}
use Rattle.sfc_asking.specs.sfc_debug.RunClock.{delta_of, run_instant, running_time}
use Rattle.sfc_asking.specs.sfc_debug.States.{state_of}
use Rattle.sfc_asking.specs.sfc_debug.Verdict.{verdict, verdict_at, answer_by, clock_refusal, end_refusal, mode_refusal, own_refusal, point_refusal}
use Rattle.sfc_asking.proofs.of_sfc_debug.Accepting.{by_itself, in_time, neither, not_refused, own_granted}

not_so : (b : Bool) (refusal : Refusal) → refused_if b refusal ≡ None → b ≡ false
not_so false refusal e = refl
not_so true refusal e = search rules

both_false : (b c : Bool) → (b || c) ≡ false → (b ≡ false) × (c ≡ false)
both_false false c e = (refl, e)
both_false true c e = absurd (search rules)

within : (t : ℤ) → is_out_of_range t ≡ false → (pos 0 ≤ℤ t) × (t ≤ℤ pos (2 ^ 62))
within t e =
    let b = both_false (int_lt t (pos 0)) (int_lt (pos (2 ^ 62)) t) e in
    let low = b.0 in
    let high = b.1 in
    (omega (arith, ints), omega (arith, ints))

-- ---- the clock

record InTime (clock : RunClock) (command : Command) (raw : ℤ) : Type 0 where
  raw_low : pos 0 ≤ℤ raw
  raw_high : raw ≤ℤ pos (2 ^ 62)
  later : clock.raw ≤ℤ raw
  delta_low : pos 0 ≤ℤ delta_of command
  run_high : run_instant clock command raw ≤ℤ pos (2 ^ 62)

not_before : (raw last : ℤ) → int_lt raw last ≡ false → last ≤ℤ raw
not_before raw last e = omega (arith, ints)

timely : (clock : RunClock) (command : Command) (raw : ℤ) → clock_refusal clock command raw ≡ None → InTime clock command raw
timely clock command raw e =
    let first = neither (instant_refusal clock.raw raw) _ e in
    let instant = neither (refused_if (is_out_of_range raw) InstantRange) _ first.0 in
    let raw_in = within raw (not_so (is_out_of_range raw) InstantRange instant.0) in
    let run = (neither (mode_refusal clock.mode command) _ first.1).1 in
    let range = both_false (int_lt (delta_of command) (pos 0)) (int_lt (pos (2 ^ 62)) (run_instant clock command raw))
    (not_so _ InstantRange run) in
    record {
      raw_low = raw_in.0;
      raw_high = raw_in.1;
      later = not_before raw clock.raw (not_so (int_lt raw clock.raw) ClockBack instant.1);
      delta_low = not_before (delta_of command) (pos 0) range.0;
      run_high = not_before (pos (2 ^ 62)) (run_instant clock command raw) range.1;
    }

module _ (plant : PlantData) (table : List BreakCondition) where
  accepted_in_time : (h : CommandHistory) (command : Command) (raw : ℤ) → IsOk (verdict plant table h command raw)
      → InTime (state_of plant table h).clock command raw
  accepted_in_time h command raw ok =
      timely (state_of plant table h).clock command raw
      (neither (end_refusal (state_of plant table h).clock.mode (length h)) _ (in_time plant table h command raw ok)).1

  pub raw_small : (h : CommandHistory) (command : Command) (raw : ℤ) → IsOk (verdict plant table h command raw)
      → unsigned_abs raw ≤ greatest
  raw_small h command raw ok =
      let t = accepted_in_time h command raw ok in
      small raw t.raw_low t.raw_high
    where
      small : (z : ℤ) → pos 0 ≤ℤ z → z ≤ℤ pos (2 ^ 62) → unsigned_abs z ≤ greatest
      small z low high = omega (arith, ints)

-- ---- what is named

task_known : (plant : PlantData) (task : TaskId) → core.task_refusal plant task ≡ None → task.0 < length plant.tasks
task_known plant task e =
    let yes = not_refused (nat_lt task.0 (length plant.tasks)) UnknownTask e in
    grind (arith, nat_tests)

program_known : (plant : PlantData) (p : ProgId) → program_refusal plant p ≡ None → p.0 < length plant.instances
program_known plant p e =
    let yes = not_refused (nat_lt p.0 (length plant.instances)) UnknownProgram e in
    grind (arith, nat_tests)

answered : (hit : Bool) (v : Result Outcome Refusal) → IsOk (answer_by hit v) → IsOk v
answered hit (Ok outcome) ok = refl
answered hit (Err refusal) ok = absurd (search rules)

granted : (refusal : Option Refusal) (outcome : Outcome) → IsOk (core.verdict_by refusal outcome) → refusal ≡ None
granted None outcome ok = refl
granted (Some refusal) outcome ok = absurd (search rules)

known_by : (plant : PlantData) (told : History) (event : Event) (t : ℤ) → first_refusal plant told event t ≡ None
    → event_refusal plant (core_state.state_of plant told).changes event ≡ None
unfolding first_refusal
known_by plant told event t none = (neither (event_refusal plant (core_state.state_of plant told).changes event) _ (neither (instant_refusal (last_instant told) t) _ none).1).0

module _ (plant : PlantData) (table : List BreakCondition) (h : CommandHistory) (raw : ℤ) where
  event_known : (command : Command) (event : Event) → event_of command ≡ Some event → IsOk (verdict plant table h command raw)
      → event_refusal plant (core_state.state_of plant (state_of plant table h).events).changes event ≡ None
  event_known command event is ok =
      let state = state_of plant table h in
      let t = run_instant state.clock command raw in
      let own = subst (λ (o : Option Event). IsOk (verdict_at plant table state command t o)) is (by_itself plant table h command raw ok) in
      known_by plant state.events event t
      (granted (first_refusal plant state.events event t) _ (answered _ (core.verdict plant state.events event t) own))

  pub scan_there : (task : TaskId) → IsOk (verdict plant table h (commands.Scan task) raw) → task.0 < length plant.tasks
  scan_there task ok = task_known plant task (event_known (commands.Scan task) (events.Scan task) refl ok)

  pub single_there : (task : TaskId) (delta : ℤ) → IsOk (verdict plant table h (commands.Single task delta) raw) → task.0 < length plant.tasks
  single_there task delta ok = task_known plant task (event_known (commands.Single task delta) (events.ForcedScan task) refl ok)

  pub program_there : (p : ProgId) (point : Point) (id : CondId) → IsOk (verdict plant table h (commands.BreakIf p point id) raw)
      → p.0 < length plant.instances
  program_there p point id ok =
      let set = (state_of plant table h).points in
      let own = own_granted (own_refusal plant table set (commands.BreakIf p point id)) _ (by_itself plant table h (commands.BreakIf p point id) raw ok) in
      let first = neither (point_refusal plant p point) _ own in
      program_known plant p (neither (program_refusal plant p) _ first.0).0

-- ---- the time that a single scan lets pass

spent : (mode : Mode) (since raw : ℤ) → since ≤ℤ raw → pos 0 ≤ℤ running_time mode since raw
spent modes.Running since raw later = omega (arith, ints)
spent modes.Stopped since raw later = omega (arith, ints)
spent modes.Ended since raw later = omega (arith, ints)

sum_low : (a b c : ℤ) → pos 0 ≤ℤ a → pos 0 ≤ℤ b → pos 0 ≤ℤ c → pos 0 ≤ℤ (a +ℤ b +ℤ c)
sum_low a b c x y z = omega (arith, ints)

last_small : (a b c : ℤ) → pos 0 ≤ℤ a → pos 0 ≤ℤ b → pos 0 ≤ℤ c → (a +ℤ b +ℤ c) ≤ℤ pos (2 ^ 62) → unsigned_abs c ≤ greatest
last_small a b c x y z high = omega (arith, ints)

module _ (plant : PlantData) (table : List BreakCondition) where
  opened_in_range : IsInRange (state_of plant table []).clock
  unfolding state_of
  opened_in_range = record { instant_low = omega (arith, ints); instant_high = omega (arith, ints); raw_low = omega (arith, ints); raw_high = omega (arith, ints) }

  behind_in_range : (timed : TimedCommand) (h : CommandHistory) → InTime (state_of plant table h).clock timed.0 timed.1
      → IsInRange (state_of plant table h).clock → IsInRange (state_of plant table (timed ∷ h)).clock
  unfolding state_of
  behind_in_range timed h time range =
      let clock = (state_of plant table h).clock in
      record {
        instant_low = sum_low clock.instant (running_time clock.mode clock.raw timed.1) (delta_of timed.0) range.instant_low
            (spent clock.mode clock.raw timed.1 time.later) time.delta_low;
        instant_high = time.run_high;
        raw_low = time.raw_low;
        raw_high = time.raw_high;
      }

  in_range : (h : CommandHistory) → IsAccepted plant table h → IsInRange (state_of plant table h).clock
  in_range [] accepted = opened_in_range
  in_range (timed ∷ h) accepted =
      behind_in_range timed h (accepted_in_time plant table h timed.0 timed.1 accepted.0) (in_range h accepted.1)

  pub single_small : (h : CommandHistory) (task : TaskId) (delta raw : ℤ) → IsAccepted plant table h
      → IsOk (verdict plant table h (commands.Single task delta) raw) → unsigned_abs delta ≤ greatest
  single_small h task delta raw accepted ok =
      let clock = (state_of plant table h).clock in
      let time = accepted_in_time plant table h (commands.Single task delta) raw ok in
      let range = in_range h accepted in
      last_small clock.instant (running_time clock.mode clock.raw raw) delta range.instant_low (spent clock.mode clock.raw raw time.later)
      time.delta_low time.run_high
