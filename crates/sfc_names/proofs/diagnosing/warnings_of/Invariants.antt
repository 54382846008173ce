use Rattle.sfc_names.specs.Diagnosing.{AreWarnings}
use Rattle.sfc_names.proofs.diagnosing.warnings_of.Given as goal

abbrev pub invariant-loop-warning : goal.invariant-loop-warning
invariant-loop-warning l = AreWarnings l.found.items
