use Rattle.std.proofs.Common.{◌≡◌, length}
use Rattle.sfc_judge.specs.Holding.{expects_fault}
use Rattle.sfc_judge.specs.Running.Cases.{lines_in}
use Rattle.sfc_judge.proofs.case.Case.expects_fault.Given as goal

abbrev pub invariant-lines : goal.invariant-lines
invariant-lines l = expects_fault (lines_in l.self) l.program ≡ expects_fault (lines_in l.rest) l.program

abbrev pub decreases-lines : goal.decreases-lines
decreases-lines l = length (lines_in l.rest)
