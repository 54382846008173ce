use Rattle.sfc_image.proofs.Pasts.{keeps_past, same_past}
use Rattle.sfc_image.proofs.laws.kept_past.Goals as goal

pub returns-clause-kept : goal.returns-clause-kept
returns-clause-kept c plant image changes agrees = keeps_past plant image changes agrees

pub returns-clause-same : goal.returns-clause-same
returns-clause-same c plant image changes other agrees e = same_past plant image changes other agrees e
