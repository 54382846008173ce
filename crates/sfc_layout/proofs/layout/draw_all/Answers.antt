use Rattle.sfc_layout.proofs.SizeLemmas.{within_as}
use Rattle.sfc_layout.proofs.DrawingLemmas.{drawn_as}
use Rattle.sfc_layout.proofs.layout.draw_all.Goals as goal

pub draw_links-requires : goal.draw_links-requires
draw_links-requires c =
    within_as _ _ _ _ _ _ c.as_slice-placed.ensures.value c.as_slice-links.ensures.value c.requires.nodes c.requires.links

pub returns-clause-drawn : goal.returns-clause-drawn
returns-clause-drawn c =
    drawn_as _ _ _ _ _ c.as_slice-placed.ensures.value c.as_slice-links.ensures.value c.in_ok-drawings.ensures.drawn
