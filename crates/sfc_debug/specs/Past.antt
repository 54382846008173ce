-- What later answers need of a list of commands.
use Rattle.std.specs.Prelude.{ℕ, List, length}
use Rattle.sfc_plant.specs.Plants.{PlantData}
use Rattle.sfc_core.specs.Past.{HistoryPast, history_past}
use Rattle.sfc_debug.specs.declared.break_condition.BreakCondition.{BreakCondition}
use Rattle.sfc_debug.specs.declared.breakpoint.Breakpoint.{Breakpoint}
use Rattle.sfc_debug.specs.declared.run_clock.RunClock.{RunClock}
use Rattle.sfc_debug.specs.Histories.{CommandHistory}
use Rattle.sfc_debug.specs.States.{DebugState, state_of}

-- the mode, the run instant and the raw instant of the latest command; the breakpoints that are set; how many commands were accepted;
-- and what the resource's events leave
pub record DebugPast : Type 0 where
  pub clock : RunClock
  pub points : List Breakpoint
  pub accepted : ℕ
  pub events : HistoryPast

-- where everything stands so, after so many commands
abbrev pub past_in : PlantData → DebugState → ℕ → DebugPast
past_in plant state count =
    record { clock = state.clock; points = state.points; accepted = count; events = history_past plant state.events }

abbrev pub debug_past : PlantData → List BreakCondition → CommandHistory → DebugPast
debug_past plant table h = past_in plant (state_of plant table h) (length h)
