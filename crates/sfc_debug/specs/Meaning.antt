-- What the laws say of halting, of accepted commands, of breakpoints, of hits, of a pause, and of what the resource was told.
use Rattle.std.specs.Prelude.{◌+◌, ◌-◌, ◌<◌, ◌^◌, ◌≡◌, ◌==◌}
use Rattle.std.specs.Prelude.{Bool, true, false, cond, not, ◌&&◌, ◌||◌, List}
use Rattle.std.specs.Prelude.{[], ◌∷◌, length, ⊤}
use Rattle.std.specs.Prelude.{ℤ, pos, ◌+ℤ◌, ◌≤ℤ◌, Option, Some, None, Result, Ok, Err, IsOk}
use Rattle.sfc_base.specs.declared.ids.ProgId.{ProgId}
use Rattle.sfc_plant.specs.Plants.{PlantData}
use Rattle.sfc_events.specs.declared.command.Answer.{Answer}
use Rattle.sfc_events.specs.declared.command.Answer.TheVariants.{Scanned}
use Rattle.sfc_events.specs.declared.command.Command.{Command}
use Rattle.sfc_events.specs.declared.command.Command.TheVariants.{Scan, Stop, Go, End, Break, BreakIf, Unbreak}
use Rattle.sfc_events.specs.declared.command.Point.{Point}
use Rattle.sfc_events.specs.declared.event.Event.{Event}
use Rattle.sfc_events.specs.declared.refusal.Refusal.{Refusal}
use Rattle.sfc_events.specs.Commands.{event_of}
use Rattle.sfc_events.specs.History.{History}
use Rattle.sfc_core.specs.Verdict as core
use Rattle.sfc_core.specs.Verdict.{or_then}
use Rattle.sfc_debug.specs.declared.break_condition.BreakCondition.{BreakCondition}
use Rattle.sfc_debug.specs.declared.breakpoint.Breakpoint.{Breakpoint}
use Rattle.sfc_debug.specs.declared.mode.Mode.{Mode}
use Rattle.sfc_debug.specs.declared.mode.Mode.TheVariants.{Running, Stopped}
use Rattle.sfc_debug.specs.Histories.{TimedCommand, CommandHistory}
use Rattle.sfc_debug.specs.Points.{has_point, is_at, is_point}
use Rattle.sfc_debug.specs.RunClock.{run_instant}
use Rattle.sfc_debug.specs.States.{DebugState, state_of, hits}
use Rattle.sfc_debug.specs.Verdict.{verdict, answer_by, end_refusal, clock_refusal}

-- ---- halting

abbrev pub is_stopped : Mode → Bool
is_stopped Stopped = true
is_stopped _ = false

abbrev pub is_scan : Command → Bool
is_scan (Scan task) = true
is_scan _ = false

abbrev pub is_stop : Command → Bool
is_stop Stop = true
is_stop _ = false

-- what is halted is so no longer after these
abbrev pub is_go_or_end : Command → Bool
is_go_or_end Go = true
is_go_or_end End = true
is_go_or_end _ = false

-- a scan that hit, or Stop, or all was halted and stays so
abbrev pub halts : Command → Bool → Mode → Bool
halts command hit mode = (is_scan command && hit) || is_stop command || (is_stopped mode && not (is_go_or_end command))

-- ---- accepted commands

-- each command of the history has an answer after those before it
abbrev pub IsAccepted : PlantData → List BreakCondition → CommandHistory → Type 0
IsAccepted plant table [] = ⊤
IsAccepted plant table (timed ∷ h) = IsOk (verdict plant table h timed.0 timed.1) × IsAccepted plant table h

-- neither the end nor the clock refuses the command
abbrev pub IsInTime : PlantData → List BreakCondition → CommandHistory → Command → ℤ → Type 0
IsInTime plant table h command raw =
    or_then (end_refusal (state_of plant table h).clock.mode (length h)) (clock_refusal (state_of plant table h).clock command raw) ≡ None

-- ---- breakpoints

-- the breakpoint is at a point of the plant
abbrev pub stands_in : PlantData → Breakpoint → Bool
stands_in plant breakpoint = has_point plant breakpoint.program breakpoint.point

-- the breakpoint that is set at this point, if one is
abbrev pub breakpoint_at : ProgId → Point → List Breakpoint → Option Breakpoint
breakpoint_at p point [] = None
breakpoint_at p point (breakpoint ∷ set) = cond (is_at p point breakpoint) (Some breakpoint) (breakpoint_at p point set)

-- the two points are the same
abbrev pub is_same : ProgId → Point → ProgId → Point → Bool
is_same p point q other = (q.0 == p.0) && is_point other point

-- the command is Break, BreakIf or Unbreak of this point
abbrev pub is_of_point : ProgId → Point → Command → Bool
is_of_point p point (Break q other) = is_same p point q other
is_of_point p point (BreakIf q other id) = is_same p point q other
is_of_point p point (Unbreak q other) = is_same p point q other
is_of_point p point _ = false

-- the breakpoint that the command sets
abbrev pub set_by : Command → Option Breakpoint
set_by (Break p point) = Some (record { program = p; point = point; condition = None })
set_by (BreakIf p point id) = Some (record { program = p; point = point; condition = Some id })
set_by _ = None

-- the breakpoint that the latest Break, BreakIf or Unbreak of the point sets
abbrev pub latest_at : ProgId → Point → CommandHistory → Option Breakpoint
latest_at p point [] = None
latest_at p point (timed ∷ h) = cond (is_of_point p point timed.0) (set_by timed.0) (latest_at p point h)

-- ---- hits

-- where everything stands so, the command hits a breakpoint at this raw instant
abbrev pub hits_at : PlantData → List BreakCondition → DebugState → Command → ℤ → Bool
hits_at plant table state command raw =
    hits plant table command (run_instant state.clock command raw) state.points state.events

-- ---- a pause

-- it was halted at r, and let go after d microseconds
abbrev pub paused : ℤ → ℤ → CommandHistory → CommandHistory
paused r d h = (Go, r +ℤ d) ∷ (Stop, r) ∷ h

-- the same commands, each d later
abbrev pub later_by : ℤ → List TimedCommand → List TimedCommand
later_by d [] = []
later_by d (timed ∷ later) = (timed.0, timed.1 +ℤ d) ∷ later_by d later

-- the raw instant is not before r, and d later there still is an instant
pub record IsFrom (r d raw : ℤ) : Type 0 where
  pub from : r ≤ℤ raw
  pub in_range : (raw +ℤ d) ≤ℤ pos (2 ^ 62)

-- each of the commands is given at such an instant
abbrev pub AreFrom : ℤ → ℤ → List TimedCommand → Type 0
AreFrom r d [] = ⊤
AreFrom r d (timed ∷ later) = IsFrom r d timed.1 × AreFrom r d later

-- After the history the mode is Running; r is an instant not before it, d is no negative time, and the commands come from r on.
-- The histories do not reach the greatest count of 64 bits.
pub record IsPause (plant : PlantData) (table : List BreakCondition) (h : CommandHistory) (later : List TimedCommand) (r d : ℤ)
    : Type 0 where
  pub running : (state_of plant table h).clock.mode ≡ Running
  pub since : (state_of plant table h).clock.raw ≤ℤ r
  pub instant : pos 0 ≤ℤ r
  pub time : pos 0 ≤ℤ d
  pub commands : AreFrom r d later
  pub room : length h + length later + 2 < 2 ^ 64 - 1

-- ---- what the resource was told

-- the answer, its hit apart
abbrev pub without_hit : Answer → Answer
without_hit (Scanned ran faulted skipped overruns hit) = Scanned ran faulted skipped overruns false
without_hit answer = answer

-- the verdict, its hit apart
abbrev pub plain : Result Answer Refusal → Result Answer Refusal
plain (Ok answer) = Ok (without_hit answer)
plain (Err refusal) = Err refusal

-- one more verdict, where the command is an event
abbrev pub with_verdict : Option Event → Result Answer Refusal → List (Result Answer Refusal) → List (Result Answer Refusal)
with_verdict None answer answers = answers
with_verdict (Some event) answer answers = answer ∷ answers

-- the verdicts on those commands of a history that are events, their hits apart, the newest first
abbrev pub answers_of : PlantData → List BreakCondition → CommandHistory → List (Result Answer Refusal)
answers_of plant table [] = []
answers_of plant table (timed ∷ h) =
    with_verdict (event_of timed.0) (plain (verdict plant table h timed.0 timed.1)) (answers_of plant table h)

-- the resource's own on a history of events
abbrev pub event_answers : PlantData → History → List (Result Answer Refusal)
event_answers plant [] = []
event_answers plant (timed_event ∷ h) = answer_by false (core.verdict plant h timed_event.0 timed_event.1) ∷ event_answers plant h
