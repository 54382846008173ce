use Rattle.sfc_instance.proofs.Pasts.{keeps_past, same_past}
use Rattle.sfc_instance.proofs.laws.kept_past.Goals as goal

pub returns-clause-kept : goal.returns-clause-kept
returns-clause-kept c tables program instance_state agrees = keeps_past tables program instance_state agrees

pub returns-clause-same : goal.returns-clause-same
returns-clause-same c tables program instance_state other agrees e = same_past tables program instance_state other agrees e
