use Rattle.std.proofs.Common.{ap, ◌∙◌}
use Rattle.sfc_debug.specs.sfc_core.Agreement.{plant_of}
use Rattle.sfc_script.specs.Names.{program_of}
use Rattle.sfc_script.proofs.Places.{place_is}
use Rattle.sfc_script.proofs.point.first_place.Goals as goal

pub returns : goal.returns
returns c =
    place_is (plant_of c.args.resource.now) c.args.rest.now c.in_ok-name.name.now c.in_ok-name.behind.now c.in_ok-point.after.now c.program_of-program.result c.in_ok-point.point
    c.in_ok-name.ensures (c.program_of-program.ensures ∙ ap (λ plant. program_of plant c.in_ok-name.name.now) c.plant.ensures) c.in_ok-point.ensures
