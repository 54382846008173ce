-- How much a command handles, at most.
use Rattle.std.specs.Prelude.{ℕ, ◌+◌, List, [], ◌∷◌, slice_get, Option, Some, None}
use Rattle.sfc_plant.specs.Plants.{PlantData}
use Rattle.sfc_expr.specs.Nodes.{nodes}
use Rattle.sfc_events.specs.declared.command.Command.{Command}
use Rattle.sfc_events.specs.declared.command.Command.TheVariants.{Scan}
use Rattle.sfc_events.specs.declared.command.CondId.{CondId}
use Rattle.sfc_events.specs.declared.event.Event.{Event}
use Rattle.sfc_events.specs.Commands.{event_of}
use Rattle.sfc_core.specs.Work.{event_work}
use Rattle.sfc_debug.specs.declared.break_condition.BreakCondition.{BreakCondition}
use Rattle.sfc_debug.specs.declared.breakpoint.Breakpoint.{Breakpoint}

-- the nodes of a condition
abbrev pub entry_nodes : Option BreakCondition → ℕ
entry_nodes None = 0
entry_nodes (Some entry) = nodes entry.condition

abbrev pub condition_nodes : List BreakCondition → Option CondId → ℕ
condition_nodes table None = 0
condition_nodes table (Some id) = entry_nodes (slice_get table id.0)

-- one for each breakpoint, and the nodes of its condition
abbrev pub points_work : List BreakCondition → List Breakpoint → ℕ
points_work table [] = 0
points_work table (breakpoint ∷ set) = 1 + condition_nodes table breakpoint.condition + points_work table set

-- what the resource handles
abbrev pub resource_work : PlantData → Option Event → ℕ
resource_work plant None = 0
resource_work plant (Some event) = event_work plant event

-- the breakpoints that a scan may hit
abbrev pub hits_work : List BreakCondition → List Breakpoint → Command → ℕ
hits_work table set (Scan task) = points_work table set
hits_work table set _ = 0

abbrev pub command_work : PlantData → List BreakCondition → List Breakpoint → Command → ℕ
command_work plant table set command = resource_work plant (event_of command) + hits_work table set command
