use Rattle.sfc_tasks.proofs.Pasts.{waits_by, overruns_by, picked_by}
use Rattle.sfc_tasks.proofs.laws.past_answers.Goals as goal

pub returns-clause-waits : goal.returns-clause-waits
returns-clause-waits c tasks calls other k lt e = waits_by tasks calls other e k lt

pub returns-clause-picked : goal.returns-clause-picked
returns-clause-picked c tasks calls other e = picked_by tasks calls other e

pub returns-clause-overruns : goal.returns-clause-overruns
returns-clause-overruns c tasks calls other k lt e = overruns_by tasks calls other e k lt
