use Rattle.std.proofs.Common.{take, flat_map}
use Rattle.sfc_list.specs.Charts.{action_text}
use Rattle.sfc_list.specs.Private.Sinking.{Puts}
use Rattle.sfc_list.proofs.program.put_actions.Given as goal

abbrev pub invariant-loop-action : goal.invariant-loop-action
invariant-loop-action g l = Puts g.W.Write.contents l.initial.out l.out (flat_map (action_text l.names) (take l.action-index l.actions))
