use Rattle.std.proofs.Common.{List, ◌++◌, length}
use Rattle.sfc_names.specs.declared.diagnostic.Diagnostic.{Diagnostic}
use Rattle.sfc_names.specs.Diagnosing.{AreFaults}
use Rattle.sfc_names.proofs.diagnosing.faults_of.Given as goal

abbrev pub invariant-all : goal.invariant-all
invariant-all l = (behind : List Diagnostic) → AreFaults l.text l.rest behind → AreFaults l.text l.reports (l.found.items ++ behind)

abbrev pub decreases-all : goal.decreases-all
decreases-all l = length l.rest
