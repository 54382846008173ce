use Rattle.std.proofs.Common.{◌≡◌, ◌++◌, take, flat_map}
use Rattle.sfc_drawing.specs.Links.{link_text}
use Rattle.sfc_drawing.proofs.picture.append_links.Given as goal

abbrev pub invariant-loop-link : goal.invariant-loop-link
invariant-loop-link l = l.out.items ≡ l.initial.out.items ++ flat_map (link_text l.chart) (take l.link-index l.links)
