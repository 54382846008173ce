-- What a book's opening is after an accepted command.
use Rattle.std.specs.Prelude.{◌≡◌, List}
use Rattle.sfc_plant.specs.Plants.{PlantData}
use Rattle.sfc_events.specs.declared.command.Command.{Command}
use Rattle.sfc_events.specs.declared.command.Command.TheVariants.{Epoch}
use Rattle.sfc_debug.specs.declared.break_condition.BreakCondition.{BreakCondition}
use Rattle.sfc_debug.specs.declared.opening.DebugOpening.{DebugOpening}
use Rattle.sfc_debug.specs.Histories.{CommandHistory}
use Rattle.sfc_debug.specs.Openings.{past_of}
use Rattle.sfc_debug.specs.Past.{debug_past}

-- an epoch's is that of all before it, and any other command leaves it
abbrev pub IsSaved : PlantData → List BreakCondition → CommandHistory → Command → DebugOpening → DebugOpening → Type 0
IsSaved plant table h Epoch old new = past_of plant new ≡ debug_past plant table h
IsSaved plant table h _ old new = new ≡ old
