-- What the SINGLE of each task reads before an event.
use Rattle.std.specs.Prelude.{◌≡◌, Bool, List, take, None}
use Rattle.sfc_plant.specs.Plants.{PlantData}
use Rattle.sfc_events.specs.declared.event.Event.{Event}
use Rattle.sfc_events.specs.History.{History}
use Rattle.sfc_core.specs.declared.singles.Singles.{Singles}
use Rattle.sfc_core.specs.PlantState.{state_of}
use Rattle.sfc_core.specs.Due.{singles_of}
use Rattle.sfc_core.specs.Verdict.{event_refusal}

-- what the SINGLE of each task reads
abbrev pub flags_of : Singles → List Bool
flags_of singles = take singles.count singles.flags

-- they read so after a history, and the event may be
pub record IsReady (plant : PlantData) (h : History) (event : Event) (singles : Singles) : Type 0 where
  pub told : flags_of singles ≡ singles_of plant h
  pub named : event_refusal plant (state_of plant h).changes event ≡ None
