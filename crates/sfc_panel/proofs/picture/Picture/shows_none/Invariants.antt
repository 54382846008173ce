use Rattle.std.proofs.Common.{◌≡◌}
use Rattle.sfc_events.specs.History.{History}
use Rattle.sfc_output.specs.sfc_core.Agreement.{Agrees, plant_of}
use Rattle.sfc_output.specs.sfc_core.PlantState.{state_of}
use Rattle.sfc_panel.specs.Changes.{shows_none}
use Rattle.sfc_panel.specs.Pictures.{IsPicture}
use Rattle.sfc_panel.proofs.picture.Picture.shows_none.Given as goal

abbrev pub invariant-loop-k : goal.invariant-loop-k
invariant-loop-k l = (h g : History) → IsPicture (plant_of l.resource) (state_of (plant_of l.resource) h) l.self → Agrees l.resource g →
    l.none ≡ shows_none (plant_of l.resource) (state_of (plant_of l.resource) h) (state_of (plant_of l.resource) g) l.answer l.k
