-- Histories after which a resource stands alike, whatever breakpoints are set.
use Rattle.std.specs.Prelude.{◌≡◌}
use Rattle.sfc_debug.specs.declared.break_condition.BreakCondition.{BreakCondition}
use Rattle.sfc_debug.specs.Histories.{CommandHistory}
use Rattle.sfc_debug.specs.States.{erasure, state_of}
use Rattle.sfc_plant.specs.Plants.{PlantData}
use Rattle.std.specs.Prelude.{List}

-- the clocks are the same, and the resource was told the same
pub record AreAlike (plant : PlantData) (table : List BreakCondition) (h g : CommandHistory) : Type 0 where
  pub clock : (state_of plant table h).clock ≡ (state_of plant table g).clock
  pub told : erasure plant table h ≡ erasure plant table g
