use Rattle.std.proofs.Common.{length}
use Rattle.sfc_explain.proofs.finding.+find.Given as goal

abbrev pub decreases-find : goal.decreases-find
decreases-find l = length l.tables.now
