use Rattle.std.proofs.Common.{Some}
use Rattle.std.proofs.lemmas.Result.{err_from_is_err_and}
use Rattle.sfc_tools.proofs.Texts.{listed}
use Rattle.sfc_tools.proofs.Untold.{unlisted}
use Rattle.sfc_tools.proofs.listing.list.Goals as goal

pub returns-in_err-list_chart : goal.returns-in_err-list_chart
returns-in_err-list_chart c =
    let p = err_from_is_err_and c.from_residual.result c.from_residual.ensures.1 in
    rw (p.1, p.2) (unlisted c.args.chart.now (Some c.list_chart.new.chart.now) (Some c.new-text.result.items, Some c.list_chart.new.w.items)
    c.in_err-list_chart.field-0.0 c.in_err-list_chart.ensures)

pub returns : goal.returns
returns c =
    listed c.args.chart.now (Some c.list_chart.new.chart.now) c.new-text.result.items c.list_chart.new.w.items c.in_ok-list_chart.field-0
    c.new-text.ensures.items c.in_ok-list_chart.ensures
