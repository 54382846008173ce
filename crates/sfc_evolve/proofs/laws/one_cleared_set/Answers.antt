use Rattle.sfc_evolve.proofs.Placed.{chosen_set, only_set}
use Rattle.sfc_evolve.proofs.laws.one_cleared_set.Goals as goal

pub returns : goal.returns
returns c tables active conditions set sound = (chosen_set tables sound active conditions set, only_set tables sound active conditions set)
