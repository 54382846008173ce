use Rattle.std.proofs.Common.{length}
use Rattle.sfc_cases.proofs.sources.without_blanks.Given as goal

abbrev pub decreases-blanks : goal.decreases-blanks
decreases-blanks l = length l.rest
