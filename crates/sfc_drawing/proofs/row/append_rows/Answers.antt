use Rattle.sfc_drawing.specs.Steps.{row_text}
use Rattle.sfc_drawing.proofs.Joins.{number_more}
use Rattle.sfc_drawing.proofs.row.append_rows.Goals as goal

pub loop-place-preserved : goal.loop-place-preserved
loop-place-preserved c =
    number_more (row_text c.args.chart.now c.args.step.now) _ _ _ c.args.rows.now c.loop-place.place
    c.index-rows-place.result c.loop-place-test.true
    c.index-rows-place.is
    c.loop-place.invariant c.in_ok-append_row.ensures
