use Rattle.std.proofs.Common.{◌∙◌, ap}
use Rattle.sfc_expr.proofs.Unassigned.{unassigned}
use Rattle.sfc_expr.specs.Effect.{effect}
use Rattle.sfc_image.specs.Environments.{environment_of, read_at}
use Rattle.sfc_image.specs.Values.{stored_value}
use Rattle.sfc_image.proofs.Left.{named_left, others_stay, forces_left_by}
use Rattle.sfc_image.proofs.laws.bodies.Goals as goal

pub returns-clause-named : goal.returns-clause-named
returns-clause-named c plant p env changes v i e = named_left plant p env changes v i e

pub returns-clause-others : goal.returns-clause-others
returns-clause-others c plant p env changes i beyond = others_stay plant p env changes i beyond

pub returns-clause-forces : goal.returns-clause-forces
returns-clause-forces c plant p env changes i = forces_left_by plant p env changes i

pub returns-clause-unassigned : goal.returns-clause-unassigned
returns-clause-unassigned c plant p changes moment body v i at off =
    let env = environment_of plant changes p moment in
    named_left plant p (effect body env).environment changes v i at ∙ unassigned v body env off ∙ ap (read_at (stored_value plant changes)) at
