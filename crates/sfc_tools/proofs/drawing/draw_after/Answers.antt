use Rattle.std.proofs.Common.{Some}
use Rattle.std.proofs.lemmas.Result.{err_from_is_err_and}
use Rattle.sfc_tools.proofs.Texts.{drawn_behind}
use Rattle.sfc_tools.proofs.Untold.{left_undrawn}
use Rattle.sfc_tools.proofs.drawing.draw_after.Goals as goal

pub returns-in_err-draw_after : goal.returns-in_err-draw_after
returns-in_err-draw_after c =
    let p = err_from_is_err_and c.from_residual.result c.from_residual.ensures.1 in
    rw (p.1, p.2) (left_undrawn c.args.chart.now (Some c.draw_after.new.chart.now) (Some c.new-text.result.items, Some c.draw_after.new.w.items)
    c.args.script.now (Some c.draw_after.new.script.now) c.in_err-draw_after.field-0.0 c.in_err-draw_after.ensures)

pub returns : goal.returns
returns c =
    drawn_behind c.args.chart.now (Some c.draw_after.new.chart.now) c.new-text.result.items c.draw_after.new.w.items c.in_ok-draw_after.field-0
    c.new-text.ensures.items c.args.script.now (Some c.draw_after.new.script.now) c.in_ok-draw_after.ensures
