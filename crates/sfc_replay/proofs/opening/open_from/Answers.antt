use Rattle.std.proofs.Common.{◌≡◌, ℕ, List, Err, subst}
use Rattle.std.proofs.lemmas.Result.{err_from_is_err_and}
use Rattle.sfc_output.specs.sfc_core.Agreement.{plant_of}
use Rattle.sfc_script.specs.sfc_load.Accepted.{IsAccepted}
use Rattle.sfc_replay.specs.Acceptance.{Accepts}
use Rattle.sfc_replay.specs.Reading.{Device}
use Rattle.sfc_replay.specs.Working.Opening.{OpensOn}
use Rattle.sfc_replay.proofs.Openings.{both_taken, chart_stopped, chart_unread, script_unread}
use Rattle.sfc_replay.proofs.Replayed.{Keeps-same}
use Rattle.sfc_replay.proofs.opening.open_from.Goals as goal

pub returns-in_err-text : goal.returns-in_err-text
returns-in_err-text g c =
    let p = err_from_is_err_and c.from_residual.result c.from_residual.ensures.1 in
    let chart : Device = (g.C.Read.remaining c.args.chart.now, g.C.Read.remaining c.read_to_end.new.reader) in
    let script : Device = (g.S.Read.remaining c.args.script.now, g.S.Read.remaining c.args.script.now) in
    rw (p.1, p.2) (chart_unread chart script c.in_err-text.field-0.0 c.in_err-text.ensures.faults c.in_err-text.ensures.lost (Keeps-same script.0))

pub returns-in_err-resource : goal.returns-in_err-resource
returns-in_err-resource g c =
    let p = err_from_is_err_and c.from_residual-in_err-resource.result c.from_residual-in_err-resource.ensures.1 in
    let chart : Device = (g.C.Read.remaining c.args.chart.now, g.C.Read.remaining c.read_to_end.new.reader) in
    let script : Device = (g.S.Read.remaining c.args.script.now, g.S.Read.remaining c.args.script.now) in
    rw (p.1, p.2) (chart_stopped chart script c.in_ok-text.text.items c.in_err-resource.field-0.0 c.in_ok-text.ensures.taken (Keeps-same script.0)
    (subst (λ (text : List ℕ). Accepts text (Err c.in_err-resource.field-0.0)) c.deref.ensures.value c.in_err-resource.ensures.refused))

pub returns-in_err-bytes : goal.returns-in_err-bytes
returns-in_err-bytes g c =
    let p = err_from_is_err_and c.from_residual-in_err-bytes.result c.from_residual-in_err-bytes.ensures.1 in
    let chart : Device = (g.C.Read.remaining c.args.chart.now, g.C.Read.remaining c.read_to_end.new.reader) in
    let script : Device = (g.S.Read.remaining c.args.script.now, g.S.Read.remaining c.read_to_end-2.new.reader) in
    let plant = plant_of c.in_ok-resource.resource in
    let loaded : IsAccepted c.in_ok-text.text.items plant = rw c.deref.ensures.value at c.in_ok-resource.ensures.loaded in
    rw (p.1, p.2) (script_unread chart script c.in_ok-text.text.items plant c.in_ok-text.ensures.taken loaded c.in_err-bytes.field-0.0
    c.in_err-bytes.ensures.faults c.in_err-bytes.ensures.lost)

pub returns : goal.returns
returns g c =
    let chart : Device = (g.C.Read.remaining c.args.chart.now, g.C.Read.remaining c.read_to_end.new.reader) in
    let script : Device = (g.S.Read.remaining c.args.script.now, g.S.Read.remaining c.read_to_end-2.new.reader) in
    let plant = plant_of c.in_ok-resource.resource in
    let loaded : IsAccepted c.in_ok-text.text.items plant = rw c.deref.ensures.value at c.in_ok-resource.ensures.loaded in
    both_taken chart script c.in_ok-text.text.items plant c.in_ok-text.ensures.taken loaded c.in_ok-bytes.bytes.items c.in_ok-bytes.ensures.taken
    c.open_script.result
    (subst (λ (b : List ℕ). OpensOn plant b c.open_script.result) c.deref-2.ensures.value c.open_script.ensures)
