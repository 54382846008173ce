use Rattle.sfc_timers.proofs.Pasts.{flip_flop_keeps, flip_flop_agrees, on_delay_keeps, on_delay_agrees, edge_keeps, edge_agrees}
use Rattle.sfc_timers.proofs.laws.kept_past.Goals as goal

pub returns-clause-flip_flop : goal.returns-clause-flip_flop
returns-clause-flip_flop c block h = (flip_flop_keeps block h, flip_flop_agrees block h)

pub returns-clause-on_delay : goal.returns-clause-on_delay
returns-clause-on_delay c timer h = (on_delay_keeps timer h, on_delay_agrees timer h)

pub returns-clause-edge : goal.returns-clause-edge
returns-clause-edge c edge h = (edge_keeps edge h, edge_agrees edge h)
