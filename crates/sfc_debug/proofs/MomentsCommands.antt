-- How commands of a debugger are written, and what is seen of it after them. Raw instants and times are in milliseconds.
use Rattle.std.proofs.Common.{ℕ, List, ℤ, Some, None, Result}
use Rattle.sfc_base.specs.declared.value.Value.{Value}
use Rattle.sfc_expr.specs.Trees.{Expression}
use Rattle.sfc_plant.specs.Plants.{PlantData}
use Rattle.sfc_events.specs.declared.command.Answer.{Answer}
use Rattle.sfc_events.specs.declared.command.Command.TheVariants as commands
use Rattle.sfc_events.specs.declared.command.Point.{Point}
use Rattle.sfc_events.specs.declared.command.Point.TheVariants as points
use Rattle.sfc_events.specs.declared.refusal.Refusal.{Refusal}
use Rattle.sfc_core.proofs.MomentPlants.{ms}
use Rattle.sfc_debug.specs.declared.break_condition.BreakCondition.{BreakCondition}
use Rattle.sfc_debug.specs.declared.breakpoint.Breakpoint.{Breakpoint}
use Rattle.sfc_debug.specs.declared.mode.Mode.{Mode}
use Rattle.sfc_debug.specs.Histories.{TimedCommand, CommandHistory}
use Rattle.sfc_debug.specs.States.{state_of}
use Rattle.sfc_debug.specs.Verdict.{verdict}

-- ---- commands for the resource; a scan is one of task 0, where no other is named

abbrev pub scan_of : ℕ → ℕ → TimedCommand
scan_of k t = (commands.Scan (record { 0 = k }), ms t)

abbrev pub scan : ℕ → TimedCommand
scan t = scan_of 0 t

-- this many microseconds later
abbrev pub single_of : ℕ → ℤ → ℕ → TimedCommand
single_of k delta t = (commands.Single (record { 0 = k }) delta, ms t)

-- this many milliseconds later
abbrev pub single : ℕ → ℕ → TimedCommand
single delta t = single_of 0 (ms delta) t

abbrev pub input : ℕ → Value → ℕ → TimedCommand
input n v t = (commands.Input (record { 0 = n }) v, ms t)

abbrev pub force : ℕ → Value → ℕ → TimedCommand
force n v t = (commands.Force (record { 0 = n }) v, ms t)

abbrev pub release : ℕ → ℕ → TimedCommand
release n t = (commands.Release (record { 0 = n }), ms t)

abbrev pub reset : ℕ → ℕ → TimedCommand
reset p t = (commands.Reset (record { 0 = p }), ms t)

-- ---- commands for the debugger

abbrev pub read : ℕ → ℕ → TimedCommand
read n t = (commands.Read (record { 0 = n }), ms t)

abbrev pub stop : ℕ → TimedCommand
stop t = (commands.Stop, ms t)

abbrev pub go : ℕ → TimedCommand
go t = (commands.Go, ms t)

abbrev pub end : ℕ → TimedCommand
end t = (commands.End, ms t)

abbrev pub epoch : ℕ → TimedCommand
epoch t = (commands.Epoch, ms t)

-- ---- points of a chart, by their numbers

abbrev pub at_step : ℕ → Point
at_step s = points.Step (record { 0 = s })

abbrev pub at_transition : ℕ → Point
at_transition tr = points.Transition (record { 0 = tr })

abbrev pub at_action : ℕ → Point
at_action a = points.Action (record { 0 = a })

-- ---- breakpoints of program instance p; the condition of this number

abbrev pub break_in : ℕ → Point → ℕ → TimedCommand
break_in p point t = (commands.Break (record { 0 = p }) point, ms t)

abbrev pub break_in_if : ℕ → Point → ℕ → ℕ → TimedCommand
break_in_if p point c t = (commands.BreakIf (record { 0 = p }) point (record { 0 = c }), ms t)

abbrev pub unbreak_in : ℕ → Point → ℕ → TimedCommand
unbreak_in p point t = (commands.Unbreak (record { 0 = p }) point, ms t)

-- ---- the same of instance 0

abbrev pub break : Point → ℕ → TimedCommand
break point t = break_in 0 point t

abbrev pub break_if : Point → ℕ → ℕ → TimedCommand
break_if point c t = break_in_if 0 point c t

abbrev pub unbreak : Point → ℕ → TimedCommand
unbreak point t = unbreak_in 0 point t

abbrev pub breakpoint : ℕ → Point → Breakpoint
breakpoint p point = record { program = record { 0 = p }; point = point; condition = None }

abbrev pub breakpoint_if : ℕ → Point → ℕ → Breakpoint
breakpoint_if p point c = record { program = record { 0 = p }; point = point; condition = Some (record { 0 = c }) }

-- a condition of program instance p
abbrev pub condition_of : ℕ → Expression → BreakCondition
condition_of p condition = record { program = record { 0 = p }; condition = condition }

-- ---- what is seen

-- what a command is answered
abbrev pub answer_to : PlantData → List BreakCondition → CommandHistory → TimedCommand → Result Answer Refusal
answer_to plant table h timed = verdict plant table h timed.0 timed.1

-- the run instant of the latest command
abbrev pub run_at : PlantData → List BreakCondition → CommandHistory → ℤ
run_at plant table h = (state_of plant table h).clock.instant

abbrev pub mode_in : PlantData → List BreakCondition → CommandHistory → Mode
mode_in plant table h = (state_of plant table h).clock.mode

-- the breakpoints that are set
abbrev pub points_in : PlantData → List BreakCondition → CommandHistory → List Breakpoint
points_in plant table h = (state_of plant table h).points
