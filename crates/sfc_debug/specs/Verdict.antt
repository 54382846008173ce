-- The verdict on a command: the first refusal that applies, in one order (our choice), else the answer.
use Rattle.std.specs.Prelude.{ℕ, ◌-◌, ◌==◌, ◌^◌, nat_lt, Bool, false, not, ◌||◌, cond, is_none, List, [], ◌∷◌}
use Rattle.std.specs.Prelude.{length}
use Rattle.std.specs.Prelude.{ℤ, pos, int_lt, Option, Some, None, Result, Ok, Err, slice_get, unwrap_or}
use Rattle.sfc_base.specs.declared.ids.ProgId.{ProgId}
use Rattle.sfc_base.specs.declared.ids.VarId.{VarId}
use Rattle.sfc_plant.specs.Plants.{PlantData}
use Rattle.sfc_core.specs.sfc_image.Values.{variable_count}
use Rattle.sfc_events.specs.declared.command.Answer.{Answer}
use Rattle.sfc_events.specs.declared.command.Answer.TheVariants.{Done, Value, Scanned}
use Rattle.sfc_events.specs.declared.command.Command.{Command}
use Rattle.sfc_events.specs.declared.command.Command.TheVariants as commands
use Rattle.sfc_events.specs.declared.command.CondId.{CondId}
use Rattle.sfc_events.specs.declared.command.Point.{Point}
use Rattle.sfc_events.specs.declared.event.Event.{Event}
use Rattle.sfc_events.specs.declared.event.Outcome.{Outcome}
use Rattle.sfc_events.specs.declared.event.Outcome.TheVariants as outcome
use Rattle.sfc_events.specs.declared.refusal.Refusal.{Refusal}
use Rattle.sfc_events.specs.declared.refusal.Refusal.TheVariants.{InstantRange, UnknownVar}
use Rattle.sfc_events.specs.declared.refusal.Refusal.TheVariants.{Stopped, NotRunning, NotStopped, NoSuchPoint, TooManyPoints}
use Rattle.sfc_events.specs.declared.refusal.Refusal.TheVariants.{HistoryFull, Ended, NoSuchCondition}
use Rattle.sfc_events.specs.Commands.{event_of}
use Rattle.sfc_events.specs.History.{History}
use Rattle.sfc_core.specs.Answers.{value_of}
use Rattle.sfc_core.specs.Verdict as core
use Rattle.sfc_core.specs.Verdict.{refused_if, or_then, instant_refusal, program_refusal}
use Rattle.sfc_debug.specs.declared.break_condition.BreakCondition.{BreakCondition}
use Rattle.sfc_debug.specs.declared.breakpoint.Breakpoint.{Breakpoint}
use Rattle.sfc_debug.specs.declared.mode.Mode.{Mode}
use Rattle.sfc_debug.specs.declared.mode.Mode.TheVariants as mode
use Rattle.sfc_debug.specs.declared.run_clock.RunClock.{RunClock}
use Rattle.sfc_debug.specs.Histories.{TimedCommand, CommandHistory}
use Rattle.sfc_debug.specs.Modes.{is_ended}
use Rattle.sfc_debug.specs.Points.{has_point, place_of}
use Rattle.sfc_debug.specs.RunClock.{run_instant, delta_of}
use Rattle.sfc_debug.specs.States.{DebugState, state_of, hits}

-- ---- by the clock

-- While halted no task is scanned but one at a time, and only what is halted can go on.
abbrev pub mode_refusal : Mode → Command → Option Refusal
mode_refusal mode.Stopped (commands.Scan task) = Some Stopped
mode_refusal mode.Stopped commands.Stop = Some NotRunning
mode_refusal mode.Running commands.Go = Some NotStopped
mode_refusal mode.Running (commands.Single task delta) = Some NotStopped
mode_refusal _ command = None

-- a single scan lets no negative time pass, and no run instant is above 2^62 microseconds
abbrev pub range_refusal : ℤ → ℤ → Option Refusal
range_refusal delta t = refused_if (int_lt delta (pos 0) || int_lt (pos (2 ^ 62)) t) InstantRange

abbrev pub run_refusal : Command → ℤ → Option Refusal
run_refusal command t = range_refusal (delta_of command) t

-- of the raw instant, of the mode, and of the run instant
abbrev pub clock_refusal : RunClock → Command → ℤ → Option Refusal
clock_refusal clock command raw =
    or_then (instant_refusal clock.raw raw)
    (or_then (mode_refusal clock.mode command) (run_refusal command (run_instant clock command raw)))

-- ---- by what is named

-- there is no such variable
abbrev pub variable_refusal : PlantData → VarId → Option Refusal
variable_refusal plant id = refused_if (not (nat_lt id.0 (variable_count plant))) UnknownVar

-- there is no such program instance, or no such point in its chart
abbrev pub point_refusal : PlantData → ProgId → Point → Option Refusal
point_refusal plant p point =
    or_then (program_refusal plant p) (refused_if (not (has_point plant p point)) NoSuchPoint)

-- the condition is one of the program instance
abbrev pub is_condition_of : ProgId → Option BreakCondition → Bool
is_condition_of p None = false
is_condition_of p (Some entry) = entry.program.0 == p.0

-- there is no such condition
abbrev pub condition_refusal : List BreakCondition → ProgId → CondId → Option Refusal
condition_refusal table p id = refused_if (not (is_condition_of p (slice_get table id.0))) NoSuchCondition

-- at most 64 are set
abbrev pub room_refusal : ProgId → Point → List Breakpoint → Option Refusal
room_refusal p point set = cond (is_none (place_of p point set)) (refused_if (not (nat_lt (length set) 64)) TooManyPoints) None

-- none is set there
abbrev pub unset_refusal : ProgId → Point → List Breakpoint → Option Refusal
unset_refusal p point set = refused_if (is_none (place_of p point set)) NoSuchPoint

-- by a command that is no event
abbrev pub own_refusal : PlantData → List BreakCondition → List Breakpoint → Command → Option Refusal
own_refusal plant table set (commands.Read id) = variable_refusal plant id
own_refusal plant table set (commands.Break p point) = or_then (point_refusal plant p point) (room_refusal p point set)
own_refusal plant table set (commands.BreakIf p point id) =
    or_then (point_refusal plant p point) (or_then (condition_refusal table p id) (room_refusal p point set))
own_refusal plant table set (commands.Unbreak p point) = or_then (point_refusal plant p point) (unset_refusal p point set)
own_refusal plant table set _ = None

-- ---- answers

-- with what a scan hit
abbrev pub with_hit : Bool → Outcome → Answer
with_hit hit outcome.Done = Done
with_hit hit (outcome.Scanned ran faulted skipped overruns) = Scanned ran faulted skipped overruns hit

-- it tells of a hit
abbrev pub has_hit : Answer → Bool
has_hit (Scanned ran faulted skipped overruns hit) = hit
has_hit _ = false

abbrev pub answer_by : Bool → Result Outcome Refusal → Result Answer Refusal
answer_by hit (Ok out) = Ok (with_hit hit out)
answer_by hit (Err refusal) = Err refusal

-- what a command answers that is no event
abbrev pub own_answer : PlantData → History → Command → Answer
own_answer plant h (commands.Read id) = Value (value_of plant h id)
own_answer plant h _ = Done

abbrev pub own_verdict : Option Refusal → Answer → Result Answer Refusal
own_verdict (Some refusal) answer = Err refusal
own_verdict None answer = Ok answer

-- on what is the resource's by its own verdict at the run instant, else on the command itself
abbrev pub verdict_at : PlantData → List BreakCondition → DebugState → Command → ℤ → Option Event → Result Answer Refusal
verdict_at plant table state command t (Some event) =
    answer_by (hits plant table command t state.points state.events) (core.verdict plant state.events event t)
verdict_at plant table state command t None =
    own_verdict (own_refusal plant table state.points command) (own_answer plant state.events command)

-- ---- the verdict

abbrev pub verdict_by : Option Refusal → Result Answer Refusal → Result Answer Refusal
verdict_by (Some refusal) answer = Err refusal
verdict_by None answer = answer

-- nothing is accepted after End, nor beyond the greatest count of 64 bits
abbrev pub end_refusal : Mode → ℕ → Option Refusal
end_refusal mode accepted = or_then (refused_if (is_ended mode) Ended) (refused_if (accepted == 2 ^ 64 - 1) HistoryFull)

-- where everything stands so, after so many accepted commands
abbrev pub verdict_in : PlantData → List BreakCondition → DebugState → ℕ → Command → ℤ → Result Answer Refusal
verdict_in plant table state accepted command raw =
    verdict_by (or_then (end_refusal state.clock.mode accepted) (clock_refusal state.clock command raw))
    (verdict_at plant table state command (run_instant state.clock command raw) (event_of command))

-- on a command at a raw instant after the accepted ones
unfoldable pub verdict : PlantData → List BreakCondition → CommandHistory → Command → ℤ → Result Answer Refusal
verdict plant table h command raw = verdict_in plant table (state_of plant table h) (length h) command raw

-- what a breakpoint at this point, with a condition that isn't in the table, is refused for by what it names
abbrev pub unnumbered : PlantData → ProgId → Point → Refusal
unnumbered plant p point = unwrap_or (point_refusal plant p point) NoSuchCondition

-- and where everything stands so, after so many accepted commands: the end and the clock come first
abbrev pub refused_unnumbered : PlantData → DebugState → ℕ → ProgId → Point → ℤ → Refusal
refused_unnumbered plant state accepted p point raw =
    unwrap_or (or_then (end_refusal state.clock.mode accepted) (clock_refusal state.clock (commands.BreakIf p point (record { 0 = 0 })) raw))
    (unnumbered plant p point)

-- ---- many commands

-- the history after a command that was answered so
abbrev pub history_by : Result Answer Refusal → TimedCommand → CommandHistory → CommandHistory
history_by (Ok answer) timed h = timed ∷ h
history_by (Err refusal) timed h = h

-- the history after a command, accepted or not
abbrev pub after : PlantData → List BreakCondition → CommandHistory → TimedCommand → CommandHistory
after plant table h timed = history_by (verdict plant table h timed.0 timed.1) timed h

-- the history after a list of commands, the first of them first
abbrev pub after_all : PlantData → List BreakCondition → CommandHistory → List TimedCommand → CommandHistory
after_all plant table h [] = h
after_all plant table h (timed ∷ later) = after_all plant table (after plant table h timed) later
