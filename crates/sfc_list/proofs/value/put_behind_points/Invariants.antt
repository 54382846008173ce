use Rattle.std.proofs.Common.{take, flat_map}
use Rattle.sfc_base.specs.LocationText as locations
use Rattle.sfc_list.specs.Private.Sinking.{Puts}
use Rattle.sfc_list.proofs.value.put_behind_points.Given as goal

abbrev pub invariant-loop-number : goal.invariant-loop-number
invariant-loop-number g l = Puts g.W.Write.contents l.initial.out l.out (flat_map locations.behind_point (take l.number-index l.numbers))
