-- The run instant, the trace and the work of a scan in the words of who uses them (our choice of clock, of trace and of breakpoints).
use Rattle.std.specs.Prelude.{ℕ, ◌+◌, List, [], ◌∷◌, filter, ℤ, pos, ◌+ℤ◌, ◌-ℤ◌, Result, Ok, Err}
use Rattle.sfc_plant.specs.Plants.{PlantData}
use Rattle.sfc_events.specs.declared.command.Answer.{Answer}
use Rattle.sfc_events.specs.declared.command.Answer.TheVariants.{Done}
use Rattle.sfc_events.specs.declared.command.TraceRow.{TraceRow}
use Rattle.sfc_events.specs.declared.refusal.Refusal.{Refusal}
use Rattle.sfc_debug.specs.declared.break_condition.BreakCondition.{BreakCondition}
use Rattle.sfc_debug.specs.declared.breakpoint.Breakpoint.{Breakpoint}
use Rattle.sfc_debug.specs.declared.mode.Mode.{Mode}
use Rattle.sfc_debug.specs.declared.mode.Mode.TheVariants.{Running}
use Rattle.sfc_debug.specs.declared.trace_mask.TraceMask.{TraceMask}
use Rattle.sfc_debug.specs.Histories.{CommandHistory}
use Rattle.sfc_debug.specs.RunClock.{delta_of}
use Rattle.sfc_debug.specs.States.{state_of}
use Rattle.sfc_debug.specs.Tracing.{is_wanted, row_of}
use Rattle.sfc_debug.specs.Verdict.{verdict}
use Rattle.sfc_debug.specs.Work.{condition_nodes}

-- ---- the run instant

-- the raw instant of the latest command, 0 without one
abbrev pub latest_raw : CommandHistory → ℤ
latest_raw [] = pos 0
latest_raw (timed ∷ h) = timed.1

-- the mode after these commands
abbrev pub mode_behind : PlantData → List BreakCondition → CommandHistory → Mode
mode_behind plant table h = (state_of plant table h).clock.mode

-- a stretch counts where the mode in front of it is Running
abbrev pub counted : Mode → ℤ → ℤ
counted Running stretch = stretch
counted _ stretch = pos 0

-- the stretches from command to command, the first from 0, behind which command the mode is Running
abbrev pub running_stretches : PlantData → List BreakCondition → CommandHistory → ℤ
running_stretches plant table [] = pos 0
running_stretches plant table (timed ∷ h) =
    running_stretches plant table h +ℤ counted (mode_behind plant table h) (timed.1 -ℤ latest_raw h)

-- the deltas of the single scans
abbrev pub single_deltas : CommandHistory → ℤ
single_deltas [] = pos 0
single_deltas (timed ∷ h) = single_deltas h +ℤ delta_of timed.0

-- ---- the trace

-- what was answered to a command that was accepted
abbrev pub answer_in : Result Answer Refusal → Answer
answer_in (Ok answer) = answer
answer_in (Err refusal) = Done

-- the row of each accepted command, the newest first
abbrev pub all_rows : PlantData → List BreakCondition → CommandHistory → List TraceRow
all_rows plant table [] = []
all_rows plant table (timed ∷ h) =
    row_of plant table h timed.0 timed.1 (answer_in (verdict plant table h timed.0 timed.1)) ∷ all_rows plant table h

-- those of them that are wanted
abbrev pub wanted_rows : PlantData → List BreakCondition → TraceMask → CommandHistory → List TraceRow
wanted_rows plant table mask h = filter (λ row. is_wanted mask row.command) (all_rows plant table h)

-- ---- the work of a scan

-- the nodes of the conditions of breakpoints
abbrev pub nodes_of_points : List BreakCondition → List Breakpoint → ℕ
nodes_of_points table [] = 0
nodes_of_points table (breakpoint ∷ set) = condition_nodes table breakpoint.condition + nodes_of_points table set
