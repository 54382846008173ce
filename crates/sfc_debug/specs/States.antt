-- How a debugger and its resource stand after the commands.
use Rattle.std.specs.Prelude.{Bool, false, List, [], ◌∷◌, ℤ, pos, Option, Some, None}
use Rattle.sfc_plant.specs.Plants.{PlantData}
use Rattle.sfc_events.specs.declared.command.Command.{Command}
use Rattle.sfc_events.specs.declared.command.Command.TheVariants.{Scan}
use Rattle.sfc_events.specs.declared.event.Event.{Event}
use Rattle.sfc_events.specs.declared.event.Event.TheVariants as events
use Rattle.sfc_events.specs.Commands.{event_of}
use Rattle.sfc_events.specs.History.{History}
use Rattle.sfc_core.specs.sfc_instance.declared.scan_end.ScanEnd.TheVariants.{Ran}
use Rattle.sfc_core.specs.PlantState as core
use Rattle.sfc_core.specs.Verdict.{ended}
use Rattle.sfc_debug.specs.declared.break_condition.BreakCondition.{BreakCondition}
use Rattle.sfc_debug.specs.declared.breakpoint.Breakpoint.{Breakpoint}
use Rattle.sfc_debug.specs.declared.mode.Mode.TheVariants.{Running}
use Rattle.sfc_debug.specs.declared.run_clock.RunClock.{RunClock}
use Rattle.sfc_debug.specs.Histories.{CommandHistory}
use Rattle.sfc_debug.specs.Hits.{any_hit}
use Rattle.sfc_debug.specs.Modes.{mode_after}
use Rattle.sfc_debug.specs.Points.{points_after}
use Rattle.sfc_debug.specs.RunClock.{run_instant}

-- the clock with the mode, the breakpoints that are set, and what the resource was told, each event at its run instant
pub record DebugState : Type 0 where
  pub clock : RunClock
  pub points : List Breakpoint
  pub events : History

abbrev pub opened : DebugState
opened = record { clock = record { mode = Running; instant = pos 0; raw = pos 0 }; points = []; events = [] }

-- the event is told to the resource, if there is one
abbrev pub with_event : Option Event → ℤ → History → History
with_event None t h = h
with_event (Some event) t h = (event, t) ∷ h

-- A scan at t hits one of these breakpoints; no other command hits.
abbrev pub hits : PlantData → List BreakCondition → Command → ℤ → List Breakpoint → History → Bool
hits plant table (Scan task) t points h =
    any_hit plant table (ended Ran plant h task t) (core.state_of plant ((events.Scan task, t) ∷ h)) points
hits plant table _ t points h = false

-- after a command with this run instant that hit, or not
abbrev pub clock_after : Command → ℤ → ℤ → Bool → RunClock → RunClock
clock_after command raw t hit clock = record { mode = mode_after command hit clock.mode; instant = t; raw = raw }

-- Each command changes what it says, and nothing else.
abbrev pub after_command_at : PlantData → List BreakCondition → Command → ℤ → ℤ → DebugState → DebugState
after_command_at plant table command raw t state = record {
  clock = clock_after command raw t (hits plant table command t state.points state.events) state.clock;
  points = points_after command state.points;
  events = with_event (event_of command) t state.events;
}

abbrev pub after_command : PlantData → List BreakCondition → Command → ℤ → DebugState → DebugState
after_command plant table command raw state =
    after_command_at plant table command raw (run_instant state.clock command raw) state

-- after the commands of a history
unfoldable pub state_of : PlantData → List BreakCondition → CommandHistory → DebugState
state_of plant table [] = opened
state_of plant table (timed ∷ h) = after_command plant table timed.0 timed.1 (state_of plant table h)

-- What the resource was told: scans, inputs, forces, releases and resets at their run instants, a single scan as one that needn't
-- be due, and nothing of all else.
abbrev pub erasure : PlantData → List BreakCondition → CommandHistory → History
erasure plant table h = (state_of plant table h).events
