-- Which events are given.
use Rattle.std.specs.Prelude.{◌^◌, ◌≤ℤ◌, ℤ, pos, List, length}
use Rattle.sfc_plant.specs.Plants.{PlantData}
use Rattle.sfc_replay.specs.sfc_image.Changes.{Change}
use Rattle.sfc_events.specs.declared.event.Event.{Event}
use Rattle.sfc_replay.specs.sfc_core.Private.Naming.{IsTaken, NamesInstance}

-- at an instant from 0 to 2^62, of what is there, and such that the variables take it
pub record IsGiven (plant : PlantData) (changes : List Change) (event : Event) (t : ℤ) : Type 0 where
  pub low : pos 0 ≤ℤ t
  pub high : t ≤ℤ pos (2 ^ 62)
  pub instance : NamesInstance (length plant.instances) event
  pub taken : IsTaken plant changes event
