use Rattle.std.proofs.Common.{arith}
use Rattle.sfc_action.proofs.Works.{all_left}
use Rattle.sfc_action.proofs.marking.mark_words.Goals as goal

pub returns-clause-ticks : goal.returns-clause-ticks
returns-clause-ticks c =
    let was = c.loop-number.invariant in
    (omega (arith, was.rises), omega (arith, was.ticks, all_left c.args.tables.now.associations))
