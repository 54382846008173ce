use Rattle.std.proofs.Common.{length}
use Rattle.sfc_explain.proofs.finding.+explanation_numbered.Given as goal

abbrev pub decreases-explanation_numbered : goal.decreases-explanation_numbered
decreases-explanation_numbered l = length l.explanations.now
