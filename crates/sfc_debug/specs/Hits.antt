-- When a scan hits a breakpoint (our choice).
use Rattle.std.specs.Prelude.{Bool, true, false, ◌&&◌, ◌||◌, List, [], ◌∷◌, slice_get, Option, Some}
use Rattle.std.specs.Prelude.{None, Result, Ok}
use Rattle.sfc_base.specs.declared.value.Value.{Value}
use Rattle.sfc_base.specs.declared.value.Value.TheVariants as value
use Rattle.sfc_base.specs.declared.ids.ProgId.{ProgId}
use Rattle.sfc_expr.specs.Environment.{Environment}
use Rattle.sfc_expr.specs.Meaning as meaning
use Rattle.sfc_expr.specs.Trees.{Expression}
use Rattle.sfc_expr.specs.declared.fault.Fault.{Fault}
use Rattle.sfc_plant.specs.Plants.{PlantData}
use Rattle.sfc_plant.specs.Finding.{chart_of}
use Rattle.sfc_core.specs.sfc_tables.Tables.{Tabled, tables_of}
use Rattle.sfc_core.specs.sfc_instance.Answers.{is_step_activated, is_transition_cleared, is_action_executed}
use Rattle.sfc_core.specs.sfc_instance.Life.{InstanceState, latest_instant}
use Rattle.sfc_core.specs.sfc_instance.ProgramScan.{environment}
use Rattle.sfc_core.specs.sfc_instances.PlantState.{PlantState}
use Rattle.sfc_events.specs.declared.command.CondId.{CondId}
use Rattle.sfc_events.specs.declared.command.Point.{Point}
use Rattle.sfc_events.specs.declared.command.Point.TheVariants.{Step, Transition, Action}
use Rattle.sfc_events.specs.declared.instance_set.InstanceSet.{InstanceSet}
use Rattle.sfc_events.specs.InstanceSets.{has}
use Rattle.sfc_debug.specs.declared.break_condition.BreakCondition.{BreakCondition}
use Rattle.sfc_debug.specs.declared.breakpoint.Breakpoint.{Breakpoint}
use Rattle.sfc_debug.specs.Points.{has_point}

-- ---- conditions

-- TRUE; a fault is not told, and is no hit
abbrev pub is_true : Result Value Fault → Bool
is_true (Ok (value.Bool b)) = b
is_true _ = false

-- it is TRUE; one that isn't there never is
abbrev pub is_met : Environment → Option BreakCondition → Bool
is_met env None = false
is_met env (Some entry) = is_true (meaning.value_of env entry.condition)

-- its program instance and what it is
abbrev pub shown_condition : Option BreakCondition → Option (ProgId × Expression)
shown_condition None = None
shown_condition (Some entry) = Some (entry.program, entry.condition)

-- a breakpoint without a condition waits for none
abbrev pub holds : List BreakCondition → Environment → Option CondId → Bool
holds table env None = true
holds table env (Some id) = is_met env (slice_get table id.0)

-- ---- hits

-- the latest scan activated the step (2.6.2), cleared the transition (2.6.5), or executed the action (2.6.4.5)
abbrev pub has_happened : Tabled → InstanceState → Point → Bool
has_happened tables instance_state (Step s) = is_step_activated tables instance_state s.0
has_happened tables instance_state (Transition tr) = is_transition_cleared tables instance_state tr.0
has_happened tables instance_state (Action a) = is_action_executed tables instance_state a.0

-- what a condition reads after a scan: the variables after the whole scan, the instance's steps, and their times at its instant
abbrev pub environment_after : PlantData → PlantState → ProgId → Environment
environment_after plant state p =
    environment plant p (state.instance_state p.0).life state.changes (latest_instant (state.instance_state p.0).life) false

-- The breakpoint is hit by a scan in which these instances ran without fault, and after which everything stands so.
unfoldable pub is_hit : PlantData → List BreakCondition → InstanceSet → PlantState → Breakpoint → Bool
is_hit plant table ran state breakpoint =
    has_point plant breakpoint.program breakpoint.point && has ran breakpoint.program.0
    && has_happened (tables_of (chart_of plant breakpoint.program)) (state.instance_state breakpoint.program.0) breakpoint.point
    && holds table (environment_after plant state breakpoint.program) breakpoint.condition

-- one of them is
abbrev pub any_hit : PlantData → List BreakCondition → InstanceSet → PlantState → List Breakpoint → Bool
any_hit plant table ran state [] = false
any_hit plant table ran state (breakpoint ∷ set) = is_hit plant table ran state breakpoint || any_hit plant table ran state set
