use Rattle.std.proofs.Common.{◌≡◌, ◌+◌, ◌++◌, take}
use Rattle.sfc_page.proofs.pieces.copy_all.Given as goal

abbrev pub invariant-loop-i : goal.invariant-loop-i
invariant-loop-i l = take (l.count + l.i) l.bytes ≡ take l.count l.initial.bytes ++ take l.i l.text
