use Rattle.sfc_events.specs.History.{History}
use Rattle.sfc_replay.specs.sfc_core.Agreement.{Agrees, plant_of}
use Rattle.sfc_c.specs.Readings.{HasStates}
use Rattle.sfc_c.proofs.image.fill.Given as goal

abbrev pub invariant-loop-k : goal.invariant-loop-k
invariant-loop-k l = (h : History) → Agrees l.resource h → HasStates (plant_of l.resource) h l.k l.initial.into l.into
