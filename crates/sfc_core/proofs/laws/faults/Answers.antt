use Rattle.sfc_core.specs.PlantState.{state_of}
use Rattle.sfc_core.proofs.Stays.{stays}
use Rattle.sfc_core.proofs.laws.faults.Goals as goal

pub returns : goal.returns
unfolding state_of
returns c plant h event t p fault e other = stays plant t fault event p (state_of plant h) e other
