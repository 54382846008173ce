use Rattle.std.proofs.Common.{ℕ, List, Bor, option_map}
use Rattle.std.proofs.lemmas.Result.{err_from_is_err_and}
use Rattle.sfc_replay.specs.sfc_core.Agreement.{plant_of}
use Rattle.sfc_replay.specs.Reading.{Device}
use Rattle.sfc_replay.proofs.Replayed.{Keeps-same}
use Rattle.sfc_svg.proofs.PlaysDrawn.{agrees_so, drawn, history, told, unplayed}
use Rattle.sfc_svg.proofs.draw.draw_after.Goals as goal

pub returns-in_err-debugger : goal.returns-in_err-debugger
returns-in_err-debugger g c =
    let name = option_map (λ (x : Bor (List ℕ)). x.now) c.args.name in
    let p = err_from_is_err_and c.from_residual.result c.from_residual.ensures.1 in
    let chart : Device = (g.C.Read.remaining c.args.chart.now, g.C.Read.remaining c.debugger_after.new.chart) in
    let script : Device = (g.S.Read.remaining c.args.script.now, g.S.Read.remaining c.debugger_after.new.script) in
    let w : Device = (g.W.Write.contents c.args.w.now, g.W.Write.contents c.args.w.now) in
    rw (p.1, p.2) (unplayed name chart script w c.in_err-debugger.field-0.0 c.in_err-debugger.ensures (Keeps-same w.0))

pub returns : goal.returns
returns g c =
    let name = option_map (λ (x : Bor (List ℕ)). x.now) c.args.name in
    let chart : Device = (g.C.Read.remaining c.args.chart.now, g.C.Read.remaining c.debugger_after.new.chart) in
    let script : Device = (g.S.Read.remaining c.args.script.now, g.S.Read.remaining c.debugger_after.new.script) in
    let w : Device = (g.W.Write.contents c.args.w.now, g.W.Write.contents c.put_resource.new.w) in
    let debugger = c.in_ok-debugger.debugger in
    let plays = c.in_ok-debugger.ensures in
    drawn name chart script w debugger plays (plant_of c.resource.result.now) c.resource.ensures.plant c.put_resource.result
    (c.put_resource.ensures (told chart script debugger plays)
    (c.resource.ensures.agrees (history chart script debugger plays) (agrees_so chart script debugger plays)))
