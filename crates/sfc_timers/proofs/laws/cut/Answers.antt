use Rattle.sfc_timers.proofs.Cuts.{on_cut, past_cut, elapsed_cut, edge_cut}
use Rattle.sfc_timers.proofs.laws.cut.Goals as goal

pub returns-clause-flip_flop : goal.returns-clause-flip_flop
returns-clause-flip_flop c h g later e = on_cut h g later e

pub returns-clause-on_delay : goal.returns-clause-on_delay
returns-clause-on_delay c h g later e = past_cut h g later e

pub returns-clause-elapsed : goal.returns-clause-elapsed
returns-clause-elapsed c call h g later e = elapsed_cut call h g later e

pub returns-clause-edge : goal.returns-clause-edge
returns-clause-edge c h g later e = edge_cut h g later e
