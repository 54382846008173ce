use Rattle.sfc_list.specs.Charts.{transition_text}
use Rattle.sfc_list.proofs.Sunk.{puts_item}
use Rattle.sfc_list.proofs.program.put_transitions.Goals as goal

pub loop-transition-preserved : goal.loop-transition-preserved
loop-transition-preserved g c =
    puts_item g.W.Write.contents _ _ _ (transition_text c.args.names.now) c.args.transitions.now c.loop-transition.transition-index c.transition-item.result
    c.loop-transition-test.true c.transition-item.is c.loop-transition.invariant c.put_transition.ensures
