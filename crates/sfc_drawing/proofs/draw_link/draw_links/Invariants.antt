use Rattle.std.proofs.Common.{◌≡◌, flat_map, map, take}
use Rattle.sfc_drawing.specs.Said.{link_drawn, links_at}
use Rattle.sfc_drawing.proofs.draw_link.draw_links.Given as goal

abbrev pub invariant-loop-id : goal.invariant-loop-id
invariant-loop-id l = map link_drawn l.drawn.items ≡ flat_map (links_at l.spots.names.now l.transitions) (take l.id-index l.ranked)
