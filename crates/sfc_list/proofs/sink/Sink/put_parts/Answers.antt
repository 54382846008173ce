use Rattle.sfc_list.proofs.Sunk.{puts_part}
use Rattle.sfc_list.proofs.sink.Sink.put_parts.Goals as goal

pub loop-part-preserved : goal.loop-part-preserved
loop-part-preserved g c =
    puts_part g.W.Write.contents _ _ _ c.args.parts.now c.loop-part.part-index _ c.loop-part-test.true c.loop-part.invariant c.put.ensures
