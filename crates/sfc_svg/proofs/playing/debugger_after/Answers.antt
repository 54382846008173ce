use Rattle.std.proofs.lemmas.Result.{err_from_is_err_and}
use Rattle.sfc_replay.specs.Reading.{Device}
use Rattle.sfc_svg.proofs.PlaysDrawn.{played, unopened}
use Rattle.sfc_svg.proofs.playing.debugger_after.Goals as goal

pub returns-in_err-opened : goal.returns-in_err-opened
returns-in_err-opened g c =
    let p = err_from_is_err_and c.from_residual.result c.from_residual.ensures.1 in
    let chart : Device = (g.C.Read.remaining c.args.chart.now, g.C.Read.remaining c.open_from.new.chart) in
    let script : Device = (g.S.Read.remaining c.args.script.now, g.S.Read.remaining c.open_from.new.script) in
    rw (p.1, p.2) (unopened chart script c.in_err-opened.field-0.0 c.in_err-opened.ensures)

pub returns : goal.returns
returns g c =
    let chart : Device = (g.C.Read.remaining c.args.chart.now, g.C.Read.remaining c.open_from.new.chart) in
    let script : Device = (g.S.Read.remaining c.args.script.now, g.S.Read.remaining c.open_from.new.script) in
    played chart script c.in_ok-opened.opened c.played.result c.in_ok-opened.ensures c.played.ensures.steered c.played.ensures.agrees
