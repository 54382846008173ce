use Rattle.std.proofs.Common.{◌∙◌, rules}
use Rattle.sfc_drawing.proofs.Lists.{of_along, of_more}
use Rattle.sfc_drawing.proofs.drawing.draw_types.Goals as goal

pub loop-number-preserved : goal.loop-number-preserved
loop-number-preserved c =
    of_more c.args.plant.now.globals c.args.types.now _ _ c.loop-number.number c.index-types-number.result c.in_ok-chart.chart
    c.loop-number-test.true c.index-types-number.is c.loop-number.invariant
    (of_along c.in_ok-chart.chart _ _ _ _ _ _ _ _ _ _ c.source_of-source.ensures.globals (c.in_ok-owned.ensures ∙ c.spelling.ensures.value)
    (search rules) (search rules) c.source_of-source.ensures.program c.in_ok-chart.ensures)
    c.in_ok-push_chart.ensures
