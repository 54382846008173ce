use Rattle.std.proofs.Common.{◌≡◌, ◌++◌, take}
use Rattle.sfc_drawing.specs.Elements.{numbered}
use Rattle.sfc_drawing.specs.Transitions.{transition_text}
use Rattle.sfc_drawing.proofs.picture.append_transitions.Given as goal

abbrev pub invariant-loop-place : goal.invariant-loop-place
invariant-loop-place l = l.out.items ≡ l.initial.out.items ++ numbered (transition_text l.chart) 1 (take l.place l.transitions)
