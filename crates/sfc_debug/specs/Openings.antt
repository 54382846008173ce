-- What a debugger keeps of its commands, and what an opening stands for.
use Rattle.sfc_plant.specs.Plants.{PlantData}
use Rattle.sfc_core.specs.Openings as core
use Rattle.sfc_core.specs.Past as core_past
use Rattle.sfc_debug.specs.declared.debugger.Debugger.{Debugger}
use Rattle.sfc_debug.specs.declared.opening.DebugOpening.{DebugOpening}
use Rattle.sfc_debug.specs.Past.{DebugPast}

-- it was made for a debugger of the plant
unfoldable pub IsOpeningFor : PlantData → DebugOpening → Type 0
IsOpeningFor plant opening = core.IsOpeningFor plant opening.resource

-- the past that it has
unfoldable pub past_of : PlantData → DebugOpening → DebugPast
past_of plant opening = record {
  clock = opening.clock;
  points = opening.points;
  accepted = opening.accepted;
  events = core.past_of plant opening.resource;
}

-- the past that a debugger keeps
unfoldable pub kept_in : Debugger → DebugPast
kept_in debugger = record {
  clock = debugger.clock;
  points = debugger.points;
  accepted = debugger.accepted;
  events = core_past.past_in debugger.resource;
}
