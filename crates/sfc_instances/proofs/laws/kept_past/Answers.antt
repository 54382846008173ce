use Rattle.sfc_instances.proofs.Pasts.{keeps_past, same_past}
use Rattle.sfc_instances.proofs.laws.kept_past.Goals as goal

pub returns-clause-kept : goal.returns-clause-kept
returns-clause-kept c plant instances state sizes agrees = keeps_past plant instances state sizes agrees

pub returns-clause-same : goal.returns-clause-same
returns-clause-same c plant instances state other sizes agrees e = same_past plant instances state other sizes agrees e
