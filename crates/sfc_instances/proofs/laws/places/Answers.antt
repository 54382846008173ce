use Rattle.sfc_instances.proofs.Placed.{opened_placed, reset_placed, task_placed}
use Rattle.sfc_instances.proofs.laws.places.Goals as goal

pub returns-clause-opened : goal.returns-clause-opened
returns-clause-opened c = opened_placed

pub returns-clause-task : goal.returns-clause-task
returns-clause-task c plant task t state placed = task_placed plant task t state placed

pub returns-clause-change : goal.returns-clause-change
returns-clause-change c change state placed = placed

pub returns-clause-reset : goal.returns-clause-reset
returns-clause-reset c p state placed = reset_placed p state placed
