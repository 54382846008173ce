use Rattle.sfc_action.proofs.Pasts.{keeps_past, same_past}
use Rattle.sfc_action.proofs.laws.kept_past.Goals as goal

pub returns-clause-kept : goal.returns-clause-kept
returns-clause-kept c tables state h agrees = keeps_past tables state h agrees

pub returns-clause-same : goal.returns-clause-same
returns-clause-same c tables state h other agrees e = same_past tables state h other agrees e
