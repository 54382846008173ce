use Rattle.std.proofs.Common.{take, flat_map}
use Rattle.sfc_list.specs.Private.Parts.{task_line}
use Rattle.sfc_list.specs.Private.Sinking.{Puts}
use Rattle.sfc_list.proofs.configuration.put_tasks.Given as goal

abbrev pub invariant-loop-task : goal.invariant-loop-task
invariant-loop-task g l = Puts g.W.Write.contents l.initial.out l.out (flat_map (task_line l.globals) (take l.task-index l.tasks))
