use Rattle.std.proofs.Common.{◌≡◌, ◌++◌, flat_map, take}
use Rattle.sfc_drawing.specs.Elements.{own_text}
use Rattle.sfc_drawing.proofs.element.append_owns.Given as goal

abbrev pub invariant-loop-own : goal.invariant-loop-own
invariant-loop-own l = l.out.items ≡ l.initial.out.items ++ flat_map own_text (take l.own-index l.owns)
