use Rattle.sfc_image.proofs.Happened.{others_left}
use Rattle.sfc_image.proofs.laws.resets.Goals as goal

pub returns-clause-others : goal.returns-clause-others
returns-clause-others c plant changes p i e = others_left plant changes p i e
