use Rattle.sfc_image.proofs.LocalNumbers.{local_numbers}
use Rattle.sfc_image.proofs.laws.locals.Goals as goal

pub returns : goal.returns
returns c plant p i = local_numbers plant p i
