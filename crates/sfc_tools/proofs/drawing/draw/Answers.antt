use Rattle.std.proofs.Common.{Some}
use Rattle.std.proofs.lemmas.Result.{err_from_is_err_and}
use Rattle.sfc_tools.proofs.Texts.{drawn}
use Rattle.sfc_tools.proofs.Untold.{types_undrawn}
use Rattle.sfc_tools.proofs.drawing.draw.Goals as goal

pub returns-in_err-draw_types : goal.returns-in_err-draw_types
returns-in_err-draw_types c =
    let p = err_from_is_err_and c.from_residual.result c.from_residual.ensures.1 in
    rw (p.1, p.2) (types_undrawn c.args.chart.now (Some c.draw_types.new.chart.now) (Some c.new-text.result.items, Some c.draw_types.new.w.items)
    c.in_err-draw_types.field-0.0 c.in_err-draw_types.ensures)

pub returns : goal.returns
returns c =
    drawn c.args.chart.now (Some c.draw_types.new.chart.now) c.new-text.result.items c.draw_types.new.w.items c.in_ok-draw_types.field-0
    c.new-text.ensures.items c.in_ok-draw_types.ensures
