use Rattle.std.proofs.Common.{◌≡◌, ◌++◌, flat_map, take}
use Rattle.sfc_svg.specs.Forces.{further_said}
use Rattle.sfc_svg.proofs.force.append_others.Given as goal

abbrev pub invariant-loop-force : goal.invariant-loop-force
invariant-loop-force l = l.out.items ≡ l.initial.out.items ++ flat_map (further_said l.plant) (take l.force-index l.forces)
