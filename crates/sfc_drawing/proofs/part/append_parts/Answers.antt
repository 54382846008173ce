use Rattle.sfc_drawing.proofs.Joins.{part_more}
use Rattle.sfc_drawing.proofs.part.append_parts.Goals as goal

pub loop-part-preserved : goal.loop-part-preserved
loop-part-preserved c =
    part_more _ _ _ c.args.parts.now c.loop-part.part-index _ c.loop-part-test.true c.loop-part.invariant c.in_ok-append_part.ensures
