use Rattle.std.proofs.Common.{◌≡◌, ◌++◌, take}
use Rattle.sfc_drawing.specs.Parts.{escaped}
use Rattle.sfc_drawing.proofs.part.append_escaped.Given as goal

abbrev pub invariant-loop-byte : goal.invariant-loop-byte
invariant-loop-byte l = l.out.items ≡ l.initial.out.items ++ escaped (take l.byte-index l.said)
