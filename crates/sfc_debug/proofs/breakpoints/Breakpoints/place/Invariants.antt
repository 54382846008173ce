use Rattle.std.proofs.Common.{◌≡◌, drop}
use Rattle.sfc_debug.specs.Points.{place_of, place_from}
use Rattle.sfc_debug.proofs.breakpoints.Breakpoints.place.Given as goal

abbrev pub invariant-loop-k : goal.invariant-loop-k
invariant-loop-k l =
    place_of l.program l.point l.breakpoint-items ≡ place_from l.k l.program l.point (drop l.k l.breakpoint-items)
