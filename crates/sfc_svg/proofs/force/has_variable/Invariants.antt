use Rattle.std.proofs.Common.{◌≡◌, false, take}
use Rattle.sfc_svg.specs.Forces.{has_variable}
use Rattle.sfc_svg.proofs.force.has_variable.Given as goal

abbrev pub invariant-loop-force : goal.invariant-loop-force
invariant-loop-force l = has_variable (take l.force-index l.forces) l.variable ≡ false
