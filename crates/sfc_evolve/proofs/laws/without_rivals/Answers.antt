use Rattle.sfc_evolve.proofs.Placed.{alone}
use Rattle.sfc_evolve.proofs.laws.without_rivals.Goals as goal

pub returns : goal.returns
returns c tables active conditions j sound lt apart = alone tables sound active conditions j lt apart
