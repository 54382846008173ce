-- What is saved under the lock.
use Rattle.std.specs.Prelude.{ℕ, ◌≡◌, List, length}
use Rattle.sfc_plant.specs.Plants.{PlantData}
use Rattle.sfc_debug.specs.declared.break_condition.BreakCondition.{BreakCondition}
use Rattle.sfc_debug.specs.declared.opening.DebugOpening.{DebugOpening}
use Rattle.sfc_debug.specs.Openings.{past_of}
use Rattle.sfc_debug.specs.Past.{debug_past}
use Rattle.sfc_control.specs.declared.entry.Entry.{Entry}
use Rattle.sfc_control.specs.LegalHistory.{IsLegal, commands_of}

-- It has the past of the commands of these entries, which are legal, and so many.
pub record IsSavedAfter (plant : PlantData) (table : List BreakCondition) (opening : DebugOpening) (count : ℕ) (es : List Entry) : Type 0 where
  pub legal : IsLegal plant table es
  pub counted : count ≡ length es
  pub past : past_of plant opening ≡ debug_past plant table (commands_of es)
