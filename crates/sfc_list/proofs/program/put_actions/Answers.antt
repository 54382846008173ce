use Rattle.sfc_list.specs.Charts.{action_text}
use Rattle.sfc_list.proofs.Sunk.{puts_item}
use Rattle.sfc_list.proofs.program.put_actions.Goals as goal

pub loop-action-preserved : goal.loop-action-preserved
loop-action-preserved g c =
    puts_item g.W.Write.contents _ _ _ (action_text c.args.names.now) c.args.actions.now c.loop-action.action-index c.action-item.result
    c.loop-action-test.true c.action-item.is c.loop-action.invariant c.put_action.ensures
