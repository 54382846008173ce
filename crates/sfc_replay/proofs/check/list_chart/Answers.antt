use Rattle.std.proofs.Common.{ℕ, List, Err, subst}
use Rattle.std.proofs.lemmas.Result.{err_from_is_err_and}
use Rattle.sfc_output.specs.sfc_list.Listing.{listing}
use Rattle.sfc_script.specs.sfc_load.Accepted.{IsAccepted}
use Rattle.sfc_replay.specs.Acceptance.{Accepts, most}
use Rattle.sfc_replay.specs.Reading.{Device}
use Rattle.sfc_replay.proofs.Taken.{lost}
use Rattle.sfc_replay.proofs.Replayed.{Keeps-same}
use Rattle.sfc_replay.proofs.Checked.{refused, alike, written}
use Rattle.sfc_replay.proofs.check.list_chart.Goals as goal

pub returns-in_err-plant : goal.returns-in_err-plant
returns-in_err-plant g c =
    let p = err_from_is_err_and c.from_residual-in_err-plant.result c.from_residual-in_err-plant.ensures.1 in
    let chart : Device = (g.C.Read.remaining c.args.chart.now, g.C.Read.remaining c.read_to_end.new.reader) in
    let w : Device = (g.W.Write.contents c.args.w.now, g.W.Write.contents c.args.w.now) in
    rw (p.1, p.2) (refused listing chart w c.in_ok-text.text.items c.in_err-plant.field-0.0 c.in_ok-text.ensures.taken
    (lost most chart.0 chart.1 c.in_ok-text.text.items c.in_ok-text.ensures.taken) (Keeps-same w.0)
    (alike c.in_ok-text.text.items c.in_err-plant.field-0.0
    (subst (λ (text : List ℕ). Accepts text (Err c.in_err-plant.field-0.0)) c.deref.ensures.value c.in_err-plant.ensures)))

pub returns : goal.returns
returns g c =
    let chart : Device = (g.C.Read.remaining c.args.chart.now, g.C.Read.remaining c.read_to_end.new.reader) in
    let w : Device = (g.W.Write.contents c.args.w.now, g.W.Write.contents c.put_listing.new.w) in
    written listing chart w c.in_ok-text.text.items c.in_ok-plant.plant c.put_listing.result c.in_ok-text.ensures.taken
    (subst (λ (text : List ℕ). IsAccepted text c.in_ok-plant.plant) c.deref.ensures.value c.in_ok-plant.ensures) c.put_listing.ensures
