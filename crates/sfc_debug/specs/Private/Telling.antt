-- What an answer of the resource tells of breakpoints.
use Rattle.std.specs.Prelude.{Bool, false, List}
use Rattle.sfc_plant.specs.Plants.{PlantData}
use Rattle.sfc_events.specs.declared.command.Command.{Command}
use Rattle.sfc_events.specs.declared.command.Command.TheVariants.{Scan}
use Rattle.sfc_events.specs.declared.event.Outcome.{Outcome}
use Rattle.sfc_events.specs.declared.event.Outcome.TheVariants.{Scanned}
use Rattle.sfc_core.specs.sfc_instances.PlantState.{PlantState}
use Rattle.sfc_debug.specs.declared.break_condition.BreakCondition.{BreakCondition}
use Rattle.sfc_debug.specs.declared.breakpoint.Breakpoint.{Breakpoint}
use Rattle.sfc_debug.specs.Hits.{any_hit}

-- a scan that was answered so, and after which everything stands so, hit one of the breakpoints
abbrev pub hit_by : PlantData → List BreakCondition → List Breakpoint → Command → Outcome → PlantState → Bool
hit_by plant table points (Scan task) (Scanned ran faulted skipped overruns) state = any_hit plant table ran state points
hit_by plant table points _ outcome state = false
