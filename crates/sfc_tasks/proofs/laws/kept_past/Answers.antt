use Rattle.sfc_tasks.proofs.Pasts.{keeps_past, same_past}
use Rattle.sfc_tasks.proofs.laws.kept_past.Goals as goal

pub returns-clause-kept : goal.returns-clause-kept
returns-clause-kept c tasks table calls agrees = keeps_past tasks table calls agrees

pub returns-clause-same : goal.returns-clause-same
returns-clause-same c tasks table calls other agrees e = same_past tasks table calls other agrees e
