use Rattle.std.proofs.Common.{◌≡◌, length}
use Rattle.sfc_judge.specs.Holding.{expects_overruns}
use Rattle.sfc_judge.specs.Running.Cases.{lines_in}
use Rattle.sfc_judge.proofs.case.Case.expects_overruns.Given as goal

abbrev pub invariant-lines : goal.invariant-lines
invariant-lines l = expects_overruns (lines_in l.self) l.task ≡ expects_overruns (lines_in l.rest) l.task

abbrev pub decreases-lines : goal.decreases-lines
decreases-lines l = length (lines_in l.rest)
