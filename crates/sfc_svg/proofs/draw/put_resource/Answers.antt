use Rattle.std.proofs.Common.{ℕ, List, Bor, option_map, subst}
use Rattle.sfc_replay.specs.sfc_core.Agreement.{plant_of}
use Rattle.sfc_replay.specs.sfc_core.PlantState.{state_of}
use Rattle.sfc_replay.specs.Reading.{Device}
use Rattle.sfc_replay.proofs.Replayed.{Keeps-same}
use Rattle.sfc_svg.specs.Standing.{IsDrawingAt}
use Rattle.sfc_svg.specs.Written.{IsWritten}
use Rattle.sfc_svg.proofs.Putting.{put, unput}
use Rattle.sfc_svg.proofs.draw.put_resource.Goals as goal

pub returns-in-Ok : goal.returns-in-Ok
returns-in-Ok g c h agrees =
    let plant = plant_of c.args.resource.now in
    let name = option_map (λ (x : Bor (List ℕ)). x.now) c.args.name in
    let w : Device = (g.W.Write.contents c.args.w.now, g.W.Write.contents c.put_drawing.new.w) in
    put plant name (IsDrawingAt plant (state_of plant h) name) w c.in-Ok.text.items (c.in-Ok.ensures.drawn h agrees) c.put_drawing.result
    (subst (λ (text : List ℕ). IsWritten w text c.put_drawing.result) c.deref.ensures.value c.put_drawing.ensures)

pub returns-in-Err : goal.returns-in-Err
returns-in-Err g c h agrees =
    let plant = plant_of c.args.resource.now in
    let name = option_map (λ (x : Bor (List ℕ)). x.now) c.args.name in
    let w : Device = (g.W.Write.contents c.args.w.now, g.W.Write.contents c.args.w.now) in
    unput plant name (IsDrawingAt plant (state_of plant h) name) w c.in-Err.error c.in-Err.ensures.undrawn (Keeps-same w.0)
