use Rattle.sfc_evolve.proofs.Pasts.{keeps_past, same_past}
use Rattle.sfc_evolve.proofs.laws.kept_past.Goals as goal

pub returns-clause-kept : goal.returns-clause-kept
returns-clause-kept c tables steps scans agrees = keeps_past tables steps scans agrees

pub returns-clause-same : goal.returns-clause-same
returns-clause-same c tables steps scans other agrees e = same_past tables steps scans other agrees e
