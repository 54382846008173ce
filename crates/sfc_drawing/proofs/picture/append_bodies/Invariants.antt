use Rattle.std.proofs.Common.{◌≡◌, ◌++◌, take, flat_map}
use Rattle.sfc_drawing.specs.Pictures.{body_text}
use Rattle.sfc_drawing.proofs.picture.append_bodies.Given as goal

abbrev pub invariant-loop-body : goal.invariant-loop-body
invariant-loop-body l = l.out.items ≡ l.initial.out.items ++ flat_map (body_text l.chart) (take l.body-index l.bodies)
