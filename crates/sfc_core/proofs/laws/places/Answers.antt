use Rattle.sfc_core.proofs.Placed.{all_placed}
use Rattle.sfc_core.proofs.laws.places.Goals as goal

pub returns : goal.returns
returns c plant h p = all_placed plant h p.0
