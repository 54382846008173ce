use Rattle.sfc_svg.specs.Forces.{further_said}
use Rattle.sfc_svg.proofs.Ranges.{said_more}
use Rattle.sfc_svg.proofs.force.append_others.Goals as goal

pub loop-force-preserved : goal.loop-force-preserved
loop-force-preserved c =
    said_more (further_said c.args.plant.now) c.args.forces.now c.loop-force.force-index _ _ _ _ c.loop-force-test.true c.loop-force.invariant
    c.in_ok-append_further.ensures
