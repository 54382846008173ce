use Rattle.sfc_events.specs.History.{History}
use Rattle.sfc_output.specs.sfc_core.Agreement.{Agrees, plant_of}
use Rattle.sfc_output.specs.sfc_core.PlantState.{state_of}
use Rattle.sfc_panel.proofs.Shots.{AreShots}
use Rattle.sfc_panel.proofs.picture.Picture.of.Given as goal

abbrev pub invariant-loop-k : goal.invariant-loop-k
invariant-loop-k l = (h : History) → Agrees l.resource h → AreShots (plant_of l.resource) (state_of (plant_of l.resource) h) l.shots.items l.k
