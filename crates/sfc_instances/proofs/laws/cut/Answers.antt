use Rattle.sfc_instances.proofs.Pasts.{task_by, reset_by, change_by}
use Rattle.sfc_instances.proofs.laws.cut.Goals as goal

pub returns-clause-task : goal.returns-clause-task
returns-clause-task c plant task t state other sound e = task_by plant task t sound state other e

pub returns-clause-reset : goal.returns-clause-reset
returns-clause-reset c plant p state other e = reset_by plant p state other e

pub returns-clause-change : goal.returns-clause-change
returns-clause-change c plant change state other e = change_by plant change state other e
