use Rattle.sfc_list.specs.Private.Parts.{association_line}
use Rattle.sfc_list.proofs.Sunk.{puts_item}
use Rattle.sfc_list.proofs.step.put_associations.Goals as goal

pub loop-association-preserved : goal.loop-association-preserved
loop-association-preserved g c =
    puts_item g.W.Write.contents _ _ _ (association_line c.args.names.now) c.args.associations.now c.loop-association.association-index c.association-item.result
    c.loop-association-test.true c.association-item.is c.loop-association.invariant c.put_association_line.ensures
