use Rattle.std.proofs.Common.{take, flat_map}
use Rattle.sfc_list.specs.Private.Parts.{external_line}
use Rattle.sfc_list.specs.Private.Sinking.{Puts}
use Rattle.sfc_list.proofs.variables.put_externals.Given as goal

abbrev pub invariant-loop-external : goal.invariant-loop-external
invariant-loop-external g l = Puts g.W.Write.contents l.initial.out l.out (flat_map (external_line l.names) (take l.external-index l.externals))
