use Rattle.std.proofs.Common.{Some}
use Rattle.std.proofs.lemmas.Result.{err_from_is_err_and}
use Rattle.sfc_tools.proofs.Texts.{played}
use Rattle.sfc_tools.proofs.Untold.{unplayed}
use Rattle.sfc_tools.proofs.playing.play.Goals as goal

pub returns-in_err-replay : goal.returns-in_err-replay
returns-in_err-replay c =
    let p = err_from_is_err_and c.from_residual.result c.from_residual.ensures.1 in
    rw (p.1, p.2) (unplayed c.args.chart.now (Some c.replay.new.chart.now) (Some c.new-text.result.items, Some c.replay.new.w.items) c.args.script.now
    (Some c.replay.new.script.now) c.in_err-replay.field-0.0 c.in_err-replay.ensures)

pub returns : goal.returns
returns c =
    played c.args.chart.now (Some c.replay.new.chart.now) c.new-text.result.items c.replay.new.w.items c.in_ok-replay.field-0 c.new-text.ensures.items
    c.args.script.now (Some c.replay.new.script.now) c.in_ok-replay.ensures
