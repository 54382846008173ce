use Rattle.sfc_debug.proofs.Latest as sets
use Rattle.sfc_debug.proofs.laws.latest.Goals as goal

pub returns : goal.returns
returns c plant table h p point = sets.latest plant table h p point
