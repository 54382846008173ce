-- Where the faults are that stand.
use Rattle.std.proofs.Common.{[], ◌∷◌, ℤ}
use Rattle.sfc_plant.specs.Plants.{PlantData}
use Rattle.sfc_events.specs.declared.event.Event.{Event}
use Rattle.sfc_events.specs.declared.event.Event.TheVariants.{Scan, ForcedScan, Input, Force, Release, Reset}
use Rattle.sfc_events.specs.History.{History}
use Rattle.sfc_instances.specs.PlantState.{PlantState}
use Rattle.sfc_instances.specs.Places.{ArePlaced}
use Rattle.sfc_instances.proofs.Placed.{opened_placed, reset_placed, task_placed}
use Rattle.sfc_core.specs.PlantState.{after_event, state_of}

event_placed : (plant : PlantData) (event : Event) (t : ℤ) (state : PlantState) → ArePlaced state → ArePlaced (after_event plant event t state)
event_placed plant (Scan task) t state placed = task_placed plant task t state placed
event_placed plant (ForcedScan task) t state placed = task_placed plant task t state placed
event_placed plant (Input id v) t state placed = placed
event_placed plant (Force id v) t state placed = placed
event_placed plant (Release id) t state placed = placed
event_placed plant (Reset p) t state placed = reset_placed p state placed

pub all_placed : (plant : PlantData) (h : History) → ArePlaced (state_of plant h)
unfolding state_of
all_placed plant [] = opened_placed
all_placed plant (timed_event ∷ h) = event_placed plant timed_event.0 timed_event.1 (state_of plant h) (all_placed plant h)
