-- What follows after a pause is what would have followed without it.
use Rattle.std.proofs.Common.{◌≡◌, ◌∙◌, ℕ, ◌+◌, ◌-◌, ◌<◌, ◌≤◌, ◌^◌, ◌==◌, Bool, true, false, ◌||◌, List, [], ◌∷◌, length, arith, rules}
use Rattle.std.proofs.Common.{refl, sym, ap, subst}
use Rattle.std.proofs.Common.{ℤ, pos, ◌≤ℤ◌, ◌<ℤ◌, ◌+ℤ◌, ◌-ℤ◌, int_lt, Option, Some, None, Result, Ok, Err}
use Rattle.std.proofs.lemmas.Bool.{eqb-true}
use Rattle.std.proofs.lemmas.Int.{ints}
use Rattle.sfc_plant.specs.Plants.{PlantData}
use Rattle.sfc_events.specs.Commands.{event_of}
use Rattle.sfc_events.specs.declared.command.Answer.{Answer}
use Rattle.sfc_events.specs.declared.command.Answer.TheVariants.{Done}
use Rattle.sfc_events.specs.declared.command.Command.{Command}
use Rattle.sfc_events.specs.declared.command.Command.TheVariants.{Stop, Go}
use Rattle.sfc_events.specs.declared.event.Event.{Event}
use Rattle.sfc_events.specs.declared.refusal.Refusal.{Refusal}
use Rattle.sfc_events.specs.declared.refusal.Refusal.TheVariants.{InstantRange, ClockBack, HistoryFull}
use Rattle.sfc_events.specs.declared.refusal.Refusal.TheVariants as refusals
use Rattle.sfc_core.specs.Verdict as core
use Rattle.sfc_core.specs.Verdict.{is_out_of_range, refused_if, or_then}
use Rattle.sfc_debug.specs.declared.break_condition.BreakCondition.{BreakCondition}
use Rattle.sfc_debug.specs.declared.mode.Mode.{Mode}
use Rattle.sfc_debug.specs.declared.mode.Mode.TheVariants.{Running, Stopped, Ended}
use Rattle.sfc_debug.specs.Histories.{TimedCommand, CommandHistory}
use Rattle.sfc_debug.specs.Modes.{mode_after, is_ended}
use Rattle.sfc_debug.specs.Meaning.{IsFrom, AreFrom, IsPause, paused, later_by}
use Rattle.sfc_debug.specs.Points.{points_after}
use Rattle.sfc_debug.specs.RunClock.{run_instant, running_time, delta_of}
use Rattle.sfc_debug.specs.States.{DebugState, state_of, erasure, after_command, hits, with_event}
use Rattle.sfc_debug.specs.Verdict.{verdict, verdict_in, verdict_at, verdict_by, answer_by, own_refusal, own_answer, own_verdict}
use Rattle.sfc_debug.specs.Verdict.{mode_refusal, run_refusal, history_by, after, after_all}

-- ---- instants

not_below : (x y : ℤ) → y ≤ℤ x → int_lt x y ≡ false
not_below x y most = by (int_lt x y) refl
  where
    by : (t : Bool) → int_lt x y ≡ t → int_lt x y ≡ false
    by false e = e
    by true e = absurd (omega (arith, ints))

below : (x y : ℤ) → x <ℤ y → int_lt x y ≡ true
below x y less = by (int_lt x y) refl
  where
    by : (t : Bool) → int_lt x y ≡ t → int_lt x y ≡ true
    by true e = e
    by false e = absurd (omega (arith, ints))

-- both later by d
both_later : (x y d : ℤ) → int_lt x y ≡ int_lt (x +ℤ d) (y +ℤ d)
both_later x y d = by (int_lt x y) refl
  where
    by : (t : Bool) → int_lt x y ≡ t → int_lt x y ≡ int_lt (x +ℤ d) (y +ℤ d)
    by true e = e ∙ sym (below (x +ℤ d) (y +ℤ d) (omega (arith, ints)))
    by false e = e ∙ sym (not_below (x +ℤ d) (y +ℤ d) (omega (arith, ints)))

neither : (b c : Bool) → b ≡ false → c ≡ false → (b || c) ≡ false
neither false c e f = f
neither true c e f = e

in_range : (t : ℤ) → pos 0 ≤ℤ t → t ≤ℤ pos (2 ^ 62) → is_out_of_range t ≡ false
in_range t low high = neither (int_lt t (pos 0)) (int_lt (pos (2 ^ 62)) t) (not_below t (pos 0) low) (not_below (pos (2 ^ 62)) t high)

not_full : (n : ℕ) → n < 2 ^ 64 - 1 → (n == 2 ^ 64 - 1) ≡ false
not_full n less = by (n == 2 ^ 64 - 1) refl
  where
    by : (t : Bool) → (n == 2 ^ 64 - 1) ≡ t → (n == 2 ^ 64 - 1) ≡ false
    by false e = e
    by true e = absurd (omega (arith, eqb-true n (2 ^ 64 - 1) e))

same_stretch : (mode : Mode) (since raw d : ℤ) → running_time mode since raw ≡ running_time mode (since +ℤ d) (raw +ℤ d)
same_stretch Running since raw d = omega (arith, ints)
same_stretch Stopped since raw d = refl
same_stretch Ended since raw d = refl

-- ---- two states

-- They differ only in the raw instant, so that from r on the same commands, given d later, meet the second.
record IsLater (r d : ℤ) (first second : DebugState) : Type 0 where
  mode : first.clock.mode ≡ second.clock.mode
  points : first.points ≡ second.points
  events : first.events ≡ second.events
  instant : (raw : ℤ) → r ≤ℤ raw →
      (first.clock.instant +ℤ running_time first.clock.mode first.clock.raw raw)
      ≡ (second.clock.instant +ℤ running_time second.clock.mode second.clock.raw (raw +ℤ d))
  order : (raw : ℤ) → r ≤ℤ raw → int_lt raw first.clock.raw ≡ int_lt (raw +ℤ d) second.clock.raw

same_instant : (r d : ℤ) (first second : DebugState) (command : Command) (raw : ℤ) → IsLater r d first second → r ≤ℤ raw →
    run_instant first.clock command raw ≡ run_instant second.clock command (raw +ℤ d)
same_instant r d first second command raw is from = ap (λ t. t +ℤ delta_of command) (is.instant raw from)

same_answer : (plant : PlantData) (table : List BreakCondition) (r d : ℤ) (first second : DebugState) (command : Command) (t u : ℤ)
    (event : Option Event) → IsLater r d first second → t ≡ u →
    verdict_at plant table first command t event ≡ verdict_at plant table second command u event
same_answer plant table r d first second command t u (Some event) is same =
    λ i. answer_by (hits plant table command (same i) (is.points i) (is.events i)) (core.verdict plant (is.events i) event (same i))
same_answer plant table r d first second command t u None is same =
    λ i. own_verdict (own_refusal plant table (is.points i) command) (own_answer plant (is.events i) command)

-- the verdicts are the same
same_verdict : (plant : PlantData) (table : List BreakCondition) (r d : ℤ) (first second : DebugState) (n m : ℕ) (command : Command)
    (raw : ℤ) → IsLater r d first second → IsFrom r d raw → pos 0 ≤ℤ r → pos 0 ≤ℤ d → n < 2 ^ 64 - 1 → m < 2 ^ 64 - 1 →
    verdict_in plant table first n command raw ≡ verdict_in plant table second m command (raw +ℤ d)
same_verdict plant table r d first second n m command raw is from low time is_n is_m =
    let full : (n == 2 ^ 64 - 1) ≡ (m == 2 ^ 64 - 1) = not_full n is_n ∙ sym (not_full m is_m) in
    let order = is.order raw from.from in
    let later = from.in_range in
    let early = from.from in
    let range : is_out_of_range raw ≡ is_out_of_range (raw +ℤ d) =
    in_range raw (omega (arith, ints)) (omega (arith, ints)) ∙ sym (in_range (raw +ℤ d) (omega (arith, ints)) later) in
    let same = same_instant r d first second command raw is from.from in
    let answer =
    same_answer plant table r d first second command (run_instant first.clock command raw)
    (run_instant second.clock command (raw +ℤ d)) (event_of command) is same in
    λ i. verdict_by
    (or_then (or_then (refused_if (is_ended (is.mode i)) refusals.Ended) (refused_if (full i) HistoryFull))
    (or_then (or_then (refused_if (range i) InstantRange) (refused_if (order i) ClockBack))
    (or_then (mode_refusal (is.mode i) command) (run_refusal command (same i)))))
    (answer i)

-- and so are the states after a command, but for the raw instant
next : (plant : PlantData) (table : List BreakCondition) (r d : ℤ) (first second : DebugState) (command : Command) (raw : ℤ) →
    IsLater r d first second → r ≤ℤ raw →
    IsLater r d (after_command plant table command raw first) (after_command plant table command (raw +ℤ d) second)
next plant table r d first second command raw is from =
    let same = same_instant r d first second command raw is from in
    let mode : (after_command plant table command raw first).clock.mode
    ≡ (after_command plant table command (raw +ℤ d) second).clock.mode =
    λ i. mode_after command (hits plant table command (same i) (is.points i) (is.events i)) (is.mode i) in
    record {
      mode = mode;
      points = ap (points_after command) is.points;
      events = λ i. with_event (event_of command) (same i) (is.events i);
      instant =
          λ later le.
          ap (λ x. run_instant first.clock command raw +ℤ x)
          (same_stretch (after_command plant table command raw first).clock.mode raw later d)
          ∙ (λ i. same i +ℤ running_time (mode i) (raw +ℤ d) (later +ℤ d));
      order = λ later le. both_later later raw d;
    }

-- ---- many commands

-- one more at most
grows : (v : Result Answer Refusal) (timed : TimedCommand) (h : CommandHistory) → length (history_by v timed h) ≤ length h + 1
grows (Ok answer) timed h = omega arith
grows (Err refusal) timed h = omega arith

after_one : (plant : PlantData) (table : List BreakCondition) (r d : ℤ) (h g : CommandHistory) (command : Command) (raw : ℤ)
    (v : Result Answer Refusal) → IsLater r d (state_of plant table h) (state_of plant table g) → r ≤ℤ raw →
    IsLater r d (state_of plant table (history_by v (command, raw) h)) (state_of plant table (history_by v (command, raw +ℤ d) g))
unfolding state_of
after_one plant table r d h g command raw (Ok answer) is from =
    next plant table r d (state_of plant table h) (state_of plant table g) command raw is from
after_one plant table r d h g command raw (Err refusal) is from = is

verdicts : (plant : PlantData) (table : List BreakCondition) (r d : ℤ) (h g : CommandHistory) (command : Command) (raw : ℤ) →
    IsLater r d (state_of plant table h) (state_of plant table g) → IsFrom r d raw → pos 0 ≤ℤ r → pos 0 ≤ℤ d →
    length h < 2 ^ 64 - 1 → length g < 2 ^ 64 - 1 → verdict plant table h command raw ≡ verdict plant table g command (raw +ℤ d)
unfolding verdict
verdicts plant table r d h g command raw is from low time is_h is_g =
    same_verdict plant table r d (state_of plant table h) (state_of plant table g) (length h) (length g) command raw is from low time
    is_h is_g

-- the histories have room, and their states differ only so
record AreApart (plant : PlantData) (table : List BreakCondition) (r d : ℤ) (n : ℕ) (h g : CommandHistory) : Type 0 where
  states : IsLater r d (state_of plant table h) (state_of plant table g)
  first : length h + n < 2 ^ 64 - 1
  second : length g + n < 2 ^ 64 - 1

step : (plant : PlantData) (table : List BreakCondition) (r d : ℤ) (n : ℕ) (h g : CommandHistory) (timed : TimedCommand) →
    AreApart plant table r d (n + 1) h g → IsFrom r d timed.1 → pos 0 ≤ℤ r → pos 0 ≤ℤ d →
    AreApart plant table r d n (after plant table h timed) (after plant table g (timed.0, timed.1 +ℤ d))
step plant table r d n h g timed are from low time =
    let is_h = are.first in
    let is_g = are.second in
    let v = verdict plant table h timed.0 timed.1 in
    let w = verdict plant table g timed.0 (timed.1 +ℤ d) in
    let same : v ≡ w =
    verdicts plant table r d h g timed.0 timed.1 are.states from low time (omega arith) (omega arith) in
    let grown_h = grows v timed h in
    let grown_g = grows w (timed.0, timed.1 +ℤ d) g in
    record {
      states =
          subst
          (λ x. IsLater r d (state_of plant table (history_by v timed h)) (state_of plant table (history_by x (timed.0, timed.1 +ℤ d) g)))
          same (after_one plant table r d h g timed.0 timed.1 v are.states from.from);
      first = omega arith;
      second = omega arith;
    }

all_apart : (plant : PlantData) (table : List BreakCondition) (r d : ℤ) (later : List TimedCommand) (h g : CommandHistory) →
    AreApart plant table r d (length later) h g → AreFrom r d later → pos 0 ≤ℤ r → pos 0 ≤ℤ d →
    AreApart plant table r d 0 (after_all plant table h later) (after_all plant table g (later_by d later))
all_apart plant table r d [] h g are from low time = are
all_apart plant table r d (timed ∷ later) h g are from low time =
    let is_h = are.first in
    let is_g = are.second in
    let given : AreApart plant table r d (length later + 1) h g =
    record { states = are.states; first = omega arith; second = omega arith } in
    all_apart plant table r d later (after plant table h timed) (after plant table g (timed.0, timed.1 +ℤ d))
    (step plant table r d (length later) h g timed given from.0 low time) from.1 low time

-- ---- the pause

-- the time of the pause is left out
left_out : (mode : Mode) (instant since r d raw : ℤ) → mode ≡ Running →
    (instant +ℤ running_time mode since raw) ≡
    (instant +ℤ running_time mode since r +ℤ pos 0 +ℤ pos 0 +ℤ pos 0 +ℤ (raw +ℤ d -ℤ (r +ℤ d)))
left_out Running instant since r d raw e = omega (arith, ints)
left_out Stopped instant since r d raw e = search rules
left_out Ended instant since r d raw e = search rules

begins : (plant : PlantData) (table : List BreakCondition) (h : CommandHistory) (later : List TimedCommand) (r d : ℤ) →
    IsPause plant table h later r d → IsLater r d (state_of plant table h) (state_of plant table (paused r d h))
unfolding state_of
begins plant table h later r d is =
    let clock = (state_of plant table h).clock in
    let since = is.since in
    record {
      mode = is.running;
      points = refl;
      events = refl;
      instant = λ raw le. left_out clock.mode clock.instant clock.raw r d raw is.running;
      order =
          λ raw le. not_below raw clock.raw (omega (arith, ints)) ∙ sym (not_below (raw +ℤ d) (r +ℤ d) (omega (arith, ints)));
    }

apart : (plant : PlantData) (table : List BreakCondition) (h : CommandHistory) (later : List TimedCommand) (r d : ℤ) →
    IsPause plant table h later r d →
    AreApart plant table r d 0 (after_all plant table h later) (after_all plant table (paused r d h) (later_by d later))
apart plant table h later r d is =
    let room = is.room in
    let two : length (paused r d h) ≡ length h + 2 = omega arith in
    all_apart plant table r d later h (paused r d h)
    (record { states = begins plant table h later r d is; first = omega arith; second = omega arith }) is.commands is.instant is.time

pub same_after : (plant : PlantData) (table : List BreakCondition) (h : CommandHistory) (later : List TimedCommand) (r d : ℤ)
    (command : Command) (raw : ℤ) → IsPause plant table h later r d → IsFrom r d raw →
    verdict plant table (after_all plant table h later) command raw
    ≡ verdict plant table (after_all plant table (paused r d h) (later_by d later)) command (raw +ℤ d)
same_after plant table h later r d command raw is from =
    let are = apart plant table h later r d is in
    let is_h = are.first in
    let is_g = are.second in
    verdicts plant table r d (after_all plant table h later) (after_all plant table (paused r d h) (later_by d later)) command raw
    are.states from is.instant is.time (omega arith) (omega arith)

pub same_instant_after : (plant : PlantData) (table : List BreakCondition) (h : CommandHistory) (later : List TimedCommand) (r d : ℤ)
    (command : Command) (raw : ℤ) → IsPause plant table h later r d → r ≤ℤ raw →
    run_instant (state_of plant table (after_all plant table h later)).clock command raw
    ≡ run_instant (state_of plant table (after_all plant table (paused r d h) (later_by d later))).clock command (raw +ℤ d)
same_instant_after plant table h later r d command raw is from =
    same_instant r d (state_of plant table (after_all plant table h later))
    (state_of plant table (after_all plant table (paused r d h) (later_by d later))) command raw
    (apart plant table h later r d is).states from

pub same_told : (plant : PlantData) (table : List BreakCondition) (h : CommandHistory) (later : List TimedCommand) (r d : ℤ) →
    IsPause plant table h later r d →
    erasure plant table (after_all plant table h later) ≡ erasure plant table (after_all plant table (paused r d h) (later_by d later))
same_told plant table h later r d is = (apart plant table h later r d is).states.events

-- ---- what makes it

at_stop : (plant : PlantData) (table : List BreakCondition) (state : DebugState) (n : ℕ) (r : ℤ) → state.clock.mode ≡ Running →
    state.clock.raw ≤ℤ r → pos 0 ≤ℤ r → r ≤ℤ pos (2 ^ 62) → n < 2 ^ 64 - 1 → run_instant state.clock Stop r ≤ℤ pos (2 ^ 62) →
    verdict_in plant table state n Stop r ≡ Ok Done
at_stop plant table state n r running since low high room late =
    let full = not_full n room in
    let range = in_range r low high in
    let order = not_below r state.clock.raw since in
    let instant = not_below (pos (2 ^ 62)) (run_instant state.clock Stop r) late in
    λ i. verdict_by
    (or_then (or_then (refused_if (is_ended (running i)) refusals.Ended) (refused_if (full i) HistoryFull))
    (or_then (or_then (refused_if (range i) InstantRange) (refused_if (order i) ClockBack))
    (or_then (mode_refusal (running i) Stop) (refused_if (false || instant i) InstantRange))))
    (Ok Done)

at_go : (plant : PlantData) (table : List BreakCondition) (state : DebugState) (n : ℕ) (r : ℤ) → state.clock.mode ≡ Stopped →
    state.clock.raw ≤ℤ r → pos 0 ≤ℤ r → r ≤ℤ pos (2 ^ 62) → n < 2 ^ 64 - 1 → run_instant state.clock Go r ≤ℤ pos (2 ^ 62) →
    verdict_in plant table state n Go r ≡ Ok Done
at_go plant table state n r stopped since low high room late =
    let full = not_full n room in
    let range = in_range r low high in
    let order = not_below r state.clock.raw since in
    let instant = not_below (pos (2 ^ 62)) (run_instant state.clock Go r) late in
    λ i. verdict_by
    (or_then (or_then (refused_if (is_ended (stopped i)) refusals.Ended) (refused_if (full i) HistoryFull))
    (or_then (or_then (refused_if (range i) InstantRange) (refused_if (order i) ClockBack))
    (or_then (mode_refusal (stopped i) Go) (refused_if (false || instant i) InstantRange))))
    (Ok Done)

pub stop_is_done : (plant : PlantData) (table : List BreakCondition) (h : CommandHistory) (r d : ℤ) → IsPause plant table h [] r d →
    IsFrom r d r → run_instant (state_of plant table h).clock Stop r ≤ℤ pos (2 ^ 62) → verdict plant table h Stop r ≡ Ok Done
unfolding verdict
stop_is_done plant table h r d is from late =
    let room = is.room in
    let time = is.time in
    let high = from.in_range in
    at_stop plant table (state_of plant table h) (length h) r is.running is.since is.instant (omega (arith, ints)) (omega arith) late

pub go_is_done : (plant : PlantData) (table : List BreakCondition) (h : CommandHistory) (r d : ℤ) → IsPause plant table h [] r d →
    IsFrom r d r → run_instant (state_of plant table h).clock Stop r ≤ℤ pos (2 ^ 62) →
    verdict plant table ((Stop, r) ∷ h) Go (r +ℤ d) ≡ Ok Done
unfolding verdict state_of
go_is_done plant table h r d is from late =
    let room = is.room in
    let time = is.time in
    let low = is.instant in
    let high = from.in_range in
    let t = run_instant (state_of plant table h).clock Stop r in
    let one : length ((Stop, r) ∷ h) ≡ length h + 1 = omega arith in
    at_go plant table (after_command plant table Stop r (state_of plant table h)) (length ((Stop, r) ∷ h)) (r +ℤ d) refl
    (omega (arith, ints)) (omega (arith, ints)) high (omega arith) (still t (late))
  where
    still : (t : ℤ) → t ≤ℤ pos (2 ^ 62) → (t +ℤ pos 0 +ℤ pos 0) ≤ℤ pos (2 ^ 62)
    still t most = omega (arith, ints)
