use Rattle.std.proofs.Common.{◌≡◌, ◌++◌, flat_map, take}
use Rattle.sfc_base.specs.LocationText.{behind_point}
use Rattle.sfc_c.proofs.about.append_behind_points.Given as goal

abbrev pub invariant-loop-number : goal.invariant-loop-number
invariant-loop-number l = l.out.items ≡ l.initial.out.items ++ flat_map behind_point (take l.number-index l.numbers)
