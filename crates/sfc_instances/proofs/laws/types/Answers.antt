use Rattle.sfc_instances.proofs.Typed.{opened_typed, task_typed, change_typed, reset_typed}
use Rattle.sfc_instances.proofs.laws.types.Goals as goal

pub returns-clause-opened : goal.returns-clause-opened
returns-clause-opened c plant = opened_typed plant

pub returns-clause-task : goal.returns-clause-task
returns-clause-task c plant task t state sound here typed = task_typed plant sound task t here state typed

pub returns-clause-change : goal.returns-clause-change
returns-clause-change c plant change state gives typed = change_typed plant change state gives typed

pub returns-clause-reset : goal.returns-clause-reset
returns-clause-reset c plant p state typed = reset_typed plant p state typed
