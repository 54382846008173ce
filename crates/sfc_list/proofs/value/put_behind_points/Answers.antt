use Rattle.sfc_base.specs.LocationText.{behind_point}
use Rattle.sfc_list.proofs.Sunk.{puts_next}
use Rattle.sfc_list.proofs.value.put_behind_points.Goals as goal

pub loop-number-preserved : goal.loop-number-preserved
loop-number-preserved g c =
    puts_next g.W.Write.contents _ _ _ behind_point c.args.numbers.now c.loop-number.number-index _ c.loop-number-test.true
    c.loop-number.invariant c.put_behind_point.ensures
