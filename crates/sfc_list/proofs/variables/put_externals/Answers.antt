use Rattle.sfc_list.specs.Private.Parts.{external_line}
use Rattle.sfc_list.proofs.Sunk.{puts_next}
use Rattle.sfc_list.proofs.variables.put_externals.Goals as goal

pub loop-external-preserved : goal.loop-external-preserved
loop-external-preserved g c =
    puts_next g.W.Write.contents _ _ _ (external_line c.args.names.now) c.args.externals.now c.loop-external.external-index _
    c.loop-external-test.true c.loop-external.invariant c.put_external_line.ensures
