use Rattle.std.proofs.Common.{Err, subst}
use Rattle.std.proofs.lemmas.Result.{err_from_is_err_and}
use Rattle.sfc_replay.specs.Reading.{Device}
use Rattle.sfc_replay.specs.Acceptance.{acceptance, most}
use Rattle.sfc_replay.specs.Working.Telling.{Checks}
use Rattle.sfc_replay.proofs.Taken.{lost}
use Rattle.sfc_replay.proofs.Replayed.{Keeps-same}
use Rattle.sfc_replay.proofs.Checked.{refused}
use Rattle.sfc_replay.proofs.check.check_chart.Goals as goal

pub returns-in_err-check_text : goal.returns-in_err-check_text
returns-in_err-check_text g c =
    let p = err_from_is_err_and c.from_residual-in_err-check_text.result c.from_residual-in_err-check_text.ensures.1 in
    let chart : Device = (g.C.Read.remaining c.args.chart.now, g.C.Read.remaining c.read_to_end.new.reader) in
    let w : Device = (g.W.Write.contents c.args.w.now, g.W.Write.contents c.args.w.now) in
    rw (p.1, p.2) (refused acceptance chart w c.in_ok-text.text.items c.in_err-check_text.field-0.0 c.in_ok-text.ensures.taken
    (lost most chart.0 chart.1 c.in_ok-text.text.items c.in_ok-text.ensures.taken) (Keeps-same w.0)
    (subst (λ text. Checks text {X = Unit {0}} (Err c.in_err-check_text.field-0.0)) c.deref.ensures.value c.in_err-check_text.ensures))
