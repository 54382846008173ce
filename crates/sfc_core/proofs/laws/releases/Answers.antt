use Rattle.sfc_core.proofs.Releasing.{waits_unserved, waits_until_now}
use Rattle.sfc_core.proofs.laws.releases.Goals as goal

pub returns-clause-waiting : goal.returns-clause-waiting
returns-clause-waiting c plant h task u = waits_unserved plant task.0 h u

pub returns-clause-now : goal.returns-clause-now
returns-clause-now c plant h task t u = waits_until_now plant task.0 h t u
