use Rattle.sfc_drawing.specs.Links.{link_text}
use Rattle.sfc_drawing.proofs.Joins.{item_more}
use Rattle.sfc_drawing.proofs.picture.append_links.Goals as goal

pub loop-link-preserved : goal.loop-link-preserved
loop-link-preserved c =
    item_more (link_text c.args.chart.now) _ _ _ c.args.links.now c.loop-link.link-index c.link-item.result
    c.loop-link-test.true c.link-item.is
    c.loop-link.invariant c.in_ok-append_link.ensures
