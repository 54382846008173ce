use Rattle.std.proofs.Common.{◌≡◌, ◌++◌, [], take}
use Rattle.sfc_drawing.specs.Parts.{joined}
use Rattle.sfc_drawing.proofs.part.append_parts.Given as goal

abbrev pub invariant-loop-part : goal.invariant-loop-part
invariant-loop-part l = l.out.items ≡ l.initial.out.items ++ joined [] (take l.part-index l.parts)
