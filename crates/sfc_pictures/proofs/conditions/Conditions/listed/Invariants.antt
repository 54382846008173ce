use Rattle.std.proofs.Common.{length}
use Rattle.sfc_pictures.proofs.conditions.Conditions.listed.Given as goal

abbrev pub decreases-lines : goal.decreases-lines
decreases-lines l = length l.rest
