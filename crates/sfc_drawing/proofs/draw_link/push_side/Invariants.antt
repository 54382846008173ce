use Rattle.std.proofs.Common.{◌≡◌, ◌++◌, map, take}
use Rattle.sfc_drawing.specs.Said.{link_drawn, link_on}
use Rattle.sfc_drawing.proofs.draw_link.push_side.Given as goal

abbrev pub invariant-loop-step : goal.invariant-loop-step
invariant-loop-step l =
    map link_drawn l.drawn.items ≡ map link_drawn l.initial.drawn.items
    ++ map (link_on l.ranked.side l.spots.names.now l.ranked.place) (take l.step-index l.steps)
