use Rattle.std.proofs.Common.{All, length}
use Rattle.sfc_why.specs.Telling.{IsWarningOf}
use Rattle.sfc_why.proofs.warning.warnings_over.Given as goal

abbrev pub invariant-lines : goal.invariant-lines
invariant-lines l = All (IsWarningOf l.script) l.reports.items

abbrev pub decreases-lines : goal.decreases-lines
decreases-lines l = length l.rest
