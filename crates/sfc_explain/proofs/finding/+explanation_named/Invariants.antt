use Rattle.std.proofs.Common.{length}
use Rattle.sfc_explain.proofs.finding.+explanation_named.Given as goal

abbrev pub decreases-explanation_named : goal.decreases-explanation_named
decreases-explanation_named l = length l.explanations.now
