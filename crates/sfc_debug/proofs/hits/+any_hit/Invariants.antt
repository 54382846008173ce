use Rattle.std.proofs.Common.{length}
use Rattle.sfc_debug.proofs.hits.+any_hit.Given as goal

-- proposed from what the function passes where it calls itself
abbrev pub decreases-any_hit : goal.decreases-any_hit
decreases-any_hit l = length l.set.now
