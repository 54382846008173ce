use Rattle.std.proofs.Common.{IfErr, subst}
use Rattle.sfc_plant.specs.Plants.{PlantData}
use Rattle.sfc_svg.specs.Drawn.{IsUndrawnFor}
use Rattle.sfc_svg.proofs.svg.svg_of_wanted.Goals as goal

pub returns-in-Ok-clause-undrawn : goal.returns-in-Ok-clause-undrawn
returns-in-Ok-clause-undrawn c name =
    subst (λ (p : PlantData). IfErr c.svg_of_shown.result (λ error. IsUndrawnFor p name error)) c.plant.ensures
    (c.svg_of_shown.ensures.undrawn name)
