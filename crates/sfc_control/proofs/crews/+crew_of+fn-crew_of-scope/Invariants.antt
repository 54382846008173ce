use Rattle.std.proofs.Common.{length, ◌+◌, ◌*◌}
use Rattle.sfc_control.proofs.crews.+crew_of+fn-crew_of-scope.Given as goal

abbrev pub decreases-crew_of : goal.decreases-crew_of
decreases-crew_of g l = 2 * length l.posts.items

abbrev pub decreases-scope : goal.decreases-scope
decreases-scope g l = 2 * length l.posts.items + 1
