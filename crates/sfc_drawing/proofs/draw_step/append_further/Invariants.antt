use Rattle.std.proofs.Common.{◌≡◌, ◌++◌, flat_map, take}
use Rattle.sfc_drawing.specs.Said.{further}
use Rattle.sfc_drawing.proofs.draw_step.append_further.Given as goal

abbrev pub invariant-loop-indicator : goal.invariant-loop-indicator
invariant-loop-indicator l = l.out.items ≡ l.initial.out.items ++ flat_map (further l.names) (take l.indicator-index l.indicators)
