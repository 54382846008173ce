use Rattle.std.proofs.Common.{take, flat_map}
use Rattle.sfc_list.specs.Private.Parts.{association_line}
use Rattle.sfc_list.specs.Private.Sinking.{Puts}
use Rattle.sfc_list.proofs.step.put_associations.Given as goal

abbrev pub invariant-loop-association : goal.invariant-loop-association
invariant-loop-association g l = Puts g.W.Write.contents l.initial.out l.out (flat_map (association_line l.names) (take l.association-index l.associations))
