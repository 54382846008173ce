use Rattle.std.proofs.Common.{take, flat_map}
use Rattle.sfc_list.specs.Private.Parts.{instance_line}
use Rattle.sfc_list.specs.Private.Sinking.{Puts}
use Rattle.sfc_list.proofs.configuration.put_instances.Given as goal

abbrev pub invariant-loop-instance : goal.invariant-loop-instance
invariant-loop-instance g l = Puts g.W.Write.contents l.initial.out l.out (flat_map (instance_line l.tasks l.types) (take l.instance-index l.instances))
