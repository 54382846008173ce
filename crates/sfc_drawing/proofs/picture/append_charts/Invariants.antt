use Rattle.std.proofs.Common.{◌≡◌, ◌++◌, take, flat_map}
use Rattle.sfc_drawing.specs.Pictures.{chart_text}
use Rattle.sfc_drawing.proofs.picture.append_charts.Given as goal

abbrev pub invariant-loop-chart : goal.invariant-loop-chart
invariant-loop-chart l = l.out.items ≡ l.initial.out.items ++ flat_map chart_text (take l.chart-index l.charts)
