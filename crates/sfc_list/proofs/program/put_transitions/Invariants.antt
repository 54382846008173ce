use Rattle.std.proofs.Common.{take, flat_map}
use Rattle.sfc_list.specs.Charts.{transition_text}
use Rattle.sfc_list.specs.Private.Sinking.{Puts}
use Rattle.sfc_list.proofs.program.put_transitions.Given as goal

abbrev pub invariant-loop-transition : goal.invariant-loop-transition
invariant-loop-transition g l = Puts g.W.Write.contents l.initial.out l.out (flat_map (transition_text l.names) (take l.transition-index l.transitions))
