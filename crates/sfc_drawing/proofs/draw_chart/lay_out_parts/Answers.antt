use Rattle.std.proofs.Common.{ap}
use Rattle.sfc_drawing.proofs.Lists.{apart_along}
use Rattle.sfc_drawing.proofs.draw_chart.lay_out_parts.Goals as goal

pub draw_parts-requires-clause-apart : goal.draw_parts-requires-clause-apart
draw_parts-requires-clause-apart c =
    apart_along c.in_ok-layout.layout.boxes.items c.in_ok-spots.spots.layout.now.boxes.items
    (ap (λ l. l.boxes.items) c.in_ok-spots.ensures.layout) c.in_ok-layout.ensures.apart
