-- What a debugger agrees with.
use Rattle.std.specs.Prelude.{ℕ, ◌≡◌, List, length}
use Rattle.sfc_plant.specs.Plants.{PlantData}
use Rattle.sfc_events.specs.declared.command.TraceRow.{TraceRow}
use Rattle.sfc_core.specs.Agreement as core
use Rattle.sfc_debug.specs.declared.break_condition.BreakCondition.{BreakCondition}
use Rattle.sfc_debug.specs.declared.debugger.Debugger.{Debugger}
use Rattle.sfc_debug.specs.declared.trace_mask.TraceMask.{TraceMask}
use Rattle.sfc_debug.specs.Histories.{CommandHistory}
use Rattle.sfc_debug.specs.Private.Newest.{KeepsNewest}
use Rattle.sfc_debug.specs.States.{DebugState, state_of}

-- the plant that it steers
unfoldable pub plant_of : Debugger → PlantData
plant_of debugger = core.plant_of debugger.resource

-- its table of conditions
unfoldable pub table_of : Debugger → List BreakCondition
table_of debugger = debugger.conditions.items

-- which rows its trace keeps, and how many
unfoldable pub mask_of : Debugger → TraceMask
mask_of debugger = debugger.trace.mask

unfoldable pub capacity_of : Debugger → ℕ
capacity_of debugger = debugger.trace.rows.capacity

-- what it keeps is what the commands give, and its resource was told what they tell it
pub record Keeps (debugger : Debugger) (state : DebugState) (count : ℕ) : Type 0 where
  pub clock : debugger.clock ≡ state.clock
  pub points : debugger.points ≡ state.points
  pub accepted : debugger.accepted ≡ count
  pub resource : core.Agrees debugger.resource state.events

-- each answer that it gives is the definition's over the accepted commands; its trace apart
unfoldable pub Agrees : Debugger → CommandHistory → Type 0
Agrees debugger h = Keeps debugger (state_of (plant_of debugger) (table_of debugger) h) (length h)

-- its trace shows the newest of these rows, of which the newest is the first
unfoldable pub Traces : Debugger → List TraceRow → Type 0
Traces debugger rows = KeepsNewest debugger.trace rows
