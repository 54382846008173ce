use Rattle.std.proofs.Common.{ℕ, List, Bor, Err, option_map, subst}
use Rattle.std.proofs.lemmas.Result.{err_from_is_err_and}
use Rattle.sfc_replay.specs.sfc_load.Accepted.{IsAccepted}
use Rattle.sfc_replay.specs.Acceptance.{Accepts}
use Rattle.sfc_replay.specs.Reading.{Device}
use Rattle.sfc_replay.proofs.Replayed.{Keeps-same}
use Rattle.sfc_svg.proofs.TypesDrawn.{drawn, refused, unread}
use Rattle.sfc_svg.proofs.draw.draw_types.Goals as goal

pub returns-in_err-text : goal.returns-in_err-text
returns-in_err-text g c =
    let name = option_map (λ (x : Bor (List ℕ)). x.now) c.args.name in
    let p = err_from_is_err_and c.from_residual.result c.from_residual.ensures.1 in
    let chart : Device = (g.C.Read.remaining c.args.chart.now, g.C.Read.remaining c.read_to_end.new.reader) in
    let w : Device = (g.W.Write.contents c.args.w.now, g.W.Write.contents c.args.w.now) in
    rw (p.1, p.2) (unread name chart w c.in_err-text.field-0.0 c.in_err-text.ensures.faults c.in_err-text.ensures.lost (Keeps-same w.0))

pub returns-in_err-plant : goal.returns-in_err-plant
returns-in_err-plant g c =
    let name = option_map (λ (x : Bor (List ℕ)). x.now) c.args.name in
    let p = err_from_is_err_and c.from_residual-in_err-plant.result c.from_residual-in_err-plant.ensures.1 in
    let chart : Device = (g.C.Read.remaining c.args.chart.now, g.C.Read.remaining c.read_to_end.new.reader) in
    let w : Device = (g.W.Write.contents c.args.w.now, g.W.Write.contents c.args.w.now) in
    rw (p.1, p.2) (refused name chart w c.in_ok-text.text.items c.in_ok-text.ensures.taken c.in_err-plant.field-0.0
    (subst (λ (text : List ℕ). Accepts text (Err c.in_err-plant.field-0.0)) c.deref.ensures.value c.in_err-plant.ensures) (Keeps-same w.0))

pub returns : goal.returns
returns g c =
    let name = option_map (λ (x : Bor (List ℕ)). x.now) c.args.name in
    let chart : Device = (g.C.Read.remaining c.args.chart.now, g.C.Read.remaining c.read_to_end.new.reader) in
    let w : Device = (g.W.Write.contents c.args.w.now, g.W.Write.contents c.put_plant.new.w) in
    drawn name chart w c.in_ok-text.text.items c.in_ok-text.ensures.taken c.in_ok-plant.plant
    (subst (λ (text : List ℕ). IsAccepted text c.in_ok-plant.plant) c.deref.ensures.value c.in_ok-plant.ensures) c.put_plant.result
    c.put_plant.ensures
