use Rattle.std.proofs.Common.{ℕ, List, Bor, option_map, subst}
use Rattle.sfc_replay.specs.Reading.{Device}
use Rattle.sfc_replay.proofs.Replayed.{Keeps-same}
use Rattle.sfc_svg.specs.Drawn.{IsDrawingOf}
use Rattle.sfc_svg.specs.Written.{IsWritten}
use Rattle.sfc_svg.proofs.Putting.{put, unput}
use Rattle.sfc_svg.proofs.draw.put_plant.Goals as goal

pub returns-in-Ok : goal.returns-in-Ok
returns-in-Ok g c =
    let plant = c.args.plant.now in
    let name = option_map (λ (x : Bor (List ℕ)). x.now) c.args.name in
    let w : Device = (g.W.Write.contents c.args.w.now, g.W.Write.contents c.put_drawing.new.w) in
    put plant name (IsDrawingOf plant name) w c.in-Ok.text.items c.in-Ok.ensures.drawn c.put_drawing.result
    (subst (λ (text : List ℕ). IsWritten w text c.put_drawing.result) c.deref.ensures.value c.put_drawing.ensures)

pub returns-in-Err : goal.returns-in-Err
returns-in-Err g c =
    let plant = c.args.plant.now in
    let name = option_map (λ (x : Bor (List ℕ)). x.now) c.args.name in
    let w : Device = (g.W.Write.contents c.args.w.now, g.W.Write.contents c.args.w.now) in
    unput plant name (IsDrawingOf plant name) w c.in-Err.error c.in-Err.ensures.undrawn (Keeps-same w.0)
