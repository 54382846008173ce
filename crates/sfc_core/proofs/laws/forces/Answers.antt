use Rattle.sfc_core.specs.PlantState.{state_of}
use Rattle.sfc_core.proofs.Grows.{event_forces}
use Rattle.sfc_core.proofs.laws.forces.Goals as goal

pub returns : goal.returns
unfolding state_of
returns c plant h event t id off = event_forces plant event t (state_of plant h) id.0 off
