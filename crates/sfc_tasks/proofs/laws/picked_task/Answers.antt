use Rattle.sfc_tasks.proofs.Picking.{picked_is, is_picked, none_waits, none_picked}
use Rattle.sfc_tasks.proofs.laws.picked_task.Goals as goal

pub returns : goal.returns
returns c = record {
  task = λ tasks calls task. (picked_is tasks calls task, is_picked tasks calls task);
  none = λ tasks calls. (none_waits tasks calls, none_picked tasks calls);
}
