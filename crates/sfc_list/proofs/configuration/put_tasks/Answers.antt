use Rattle.sfc_list.specs.Private.Parts.{task_line}
use Rattle.sfc_list.proofs.Sunk.{puts_item}
use Rattle.sfc_list.proofs.configuration.put_tasks.Goals as goal

pub loop-task-preserved : goal.loop-task-preserved
loop-task-preserved g c =
    puts_item g.W.Write.contents _ _ _ (task_line c.args.globals.now) c.args.tasks.now c.loop-task.task-index c.task-item.result
    c.loop-task-test.true c.task-item.is c.loop-task.invariant c.put_task_line.ensures
