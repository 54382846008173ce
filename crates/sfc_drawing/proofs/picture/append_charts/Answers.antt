use Rattle.sfc_drawing.specs.Pictures.{chart_text}
use Rattle.sfc_drawing.proofs.Joins.{item_more}
use Rattle.sfc_drawing.proofs.picture.append_charts.Goals as goal

pub loop-chart-preserved : goal.loop-chart-preserved
loop-chart-preserved c =
    item_more chart_text _ _ _ c.args.charts.now c.loop-chart.chart-index c.chart-item.result c.loop-chart-test.true c.chart-item.is
    c.loop-chart.invariant c.in_ok-append_chart.ensures
