use Rattle.std.proofs.lemmas.Result.{err_from_is_err_and}
use Rattle.sfc_replay.specs.Reading.{Device}
use Rattle.sfc_replay.proofs.Replayed.{Keeps-same, found, played, stopped}
use Rattle.sfc_replay.proofs.replay.replay_strict.Goals as goal

pub returns-in_err-opened-clause-replays : goal.returns-in_err-opened-clause-replays
returns-in_err-opened-clause-replays g c =
    let p = err_from_is_err_and c.from_residual.result c.from_residual.ensures.1 in
    let chart : Device = (g.C.Read.remaining c.args.chart.now, g.C.Read.remaining c.open_from.new.chart) in
    let script : Device = (g.S.Read.remaining c.args.script.now, g.S.Read.remaining c.open_from.new.script) in
    let w : Device = (g.W.Write.contents c.args.w.now, g.W.Write.contents c.args.w.now) in
    rw (p.1, p.2) (stopped chart script w c.in_err-opened.field-0.0 c.in_err-opened.ensures (Keeps-same w.0))

pub returns-in_err-opened-clause-finds : goal.returns-in_err-opened-clause-finds
returns-in_err-opened-clause-finds g c = let p = err_from_is_err_and c.from_residual.result c.from_residual.ensures.1 in rw p.1 tt

pub returns-clause-replays : goal.returns-clause-replays
returns-clause-replays g c =
    let chart : Device = (g.C.Read.remaining c.args.chart.now, g.C.Read.remaining c.open_from.new.chart) in
    let script : Device = (g.S.Read.remaining c.args.script.now, g.S.Read.remaining c.open_from.new.script) in
    let w : Device = (g.W.Write.contents c.args.w.now, g.W.Write.contents c.play_text.new.w) in
    played chart script w c.in_ok-opened.opened c.in_ok-opened.ensures c.play_text.result c.play_text.ensures.faults c.play_text.ensures.lines

pub returns-clause-finds : goal.returns-clause-finds
returns-clause-finds g c =
    let chart : Device = (g.C.Read.remaining c.args.chart.now, g.C.Read.remaining c.open_from.new.chart) in
    let script : Device = (g.S.Read.remaining c.args.script.now, g.S.Read.remaining c.open_from.new.script) in
    let w : Device = (g.W.Write.contents c.args.w.now, g.W.Write.contents c.play_text.new.w) in
    found chart script w c.in_ok-opened.opened c.in_ok-opened.ensures c.play_text.result c.play_text.ensures.amiss
