use Rattle.std.proofs.Common.{◌≡◌, map}
use Rattle.std.specs.List.{range_with_len}
use Rattle.sfc_cover.specs.Unreached.{transition_mark}
use Rattle.sfc_cover.proofs.drawing.transitions_of.Given as goal

abbrev pub invariant-loop-number : goal.invariant-loop-number
invariant-loop-number l = l.transitions.items ≡ map (transition_mark l.reach) (range_with_len 0 l.number)
