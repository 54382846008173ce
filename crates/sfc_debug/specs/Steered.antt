-- What a debugger steers.
use Rattle.std.specs.Prelude.{List}
use Rattle.sfc_plant.specs.Plants.{PlantData}
use Rattle.sfc_debug.specs.declared.break_condition.BreakCondition.{BreakCondition}
use Rattle.sfc_debug.specs.declared.debugger.Debugger.{Debugger}
use Rattle.sfc_debug.specs.Agreement.{plant_of, table_of}

-- a plant, and the conditions that its breakpoints may wait for
pub record Steered : Type 0 where
  pub plant : PlantData
  pub table : List BreakCondition

abbrev pub steered_by : Debugger → Steered
steered_by debugger = record { plant = plant_of debugger; table = table_of debugger }
