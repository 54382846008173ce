use Rattle.std.proofs.Common.{◌≡◌, ◌++◌, flat_map, length}
use Rattle.sfc_replay.specs.sfc_script.Lines.{lines_of}
use Rattle.sfc_test.specs.Texts.{headed}
use Rattle.sfc_test.proofs.told.append_each.Given as goal

abbrev pub invariant-lines : goal.invariant-lines
invariant-lines l =
    l.out.items ++ flat_map (headed l.front) (lines_of l.rest) ≡ l.initial.out.items ++ flat_map (headed l.front) (lines_of l.bytes)

abbrev pub decreases-lines : goal.decreases-lines
decreases-lines l = length l.rest
