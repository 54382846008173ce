-- How the variables and the program instances of a plant stand after a history.
use Rattle.std.specs.Prelude.{[], ◌∷◌, ℤ}
use Rattle.sfc_plant.specs.Plants.{PlantData}
use Rattle.sfc_instances.specs.sfc_image.Changes.{Stored, Forced, Released}
use Rattle.sfc_events.specs.declared.event.Event.{Event}
use Rattle.sfc_events.specs.declared.event.Event.TheVariants.{Scan, ForcedScan, Input, Force, Release, Reset}
use Rattle.sfc_events.specs.History.{History}
use Rattle.sfc_instances.specs.PlantState.{PlantState, opened, with_change, after_task, after_reset}

-- Each event changes what it says, and nothing else.
abbrev pub after_event : PlantData → Event → ℤ → PlantState → PlantState
after_event plant (Scan task) t state = after_task plant task t 0 plant.instances state
after_event plant (ForcedScan task) t state = after_task plant task t 0 plant.instances state
after_event plant (Input id v) t state = with_change (Stored id v) state
after_event plant (Force id v) t state = with_change (Forced id v) state
after_event plant (Release id) t state = with_change (Released id) state
after_event plant (Reset p) t state = after_reset p state

-- after the events of a history
unfoldable pub state_of : PlantData → History → PlantState
state_of plant [] = opened
state_of plant (timed_event ∷ h) = after_event plant timed_event.0 timed_event.1 (state_of plant h)
