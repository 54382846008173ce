use Rattle.std.proofs.Common.{◌≡◌, ◌++◌, length, ℕ, List}
use Rattle.sfc_replay.specs.sfc_script.Lines.{lines_of}
use Rattle.sfc_tools.proofs.Answered.{GoesOn}
use Rattle.sfc_tools.proofs.asking.obey_all.Given as goal

abbrev pub decreases-lines : goal.decreases-lines
decreases-lines l = length l.rest

-- what was put so far, and for what is left is that for all
abbrev pub invariant-lines : goal.invariant-lines
invariant-lines l = (told : List ℕ) × (l.out.items ≡ l.initial.out.items ++ told)
    × GoesOn (lines_of l.lines) (lines_of l.rest) l.initial.prompt l.prompt told
