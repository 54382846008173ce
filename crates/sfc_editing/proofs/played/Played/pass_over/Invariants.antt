use Rattle.std.proofs.Common.{length}
use Rattle.sfc_editing.proofs.played.Played.pass_over.Given as goal

abbrev pub decreases-lines : goal.decreases-lines
decreases-lines l = length l.rest
