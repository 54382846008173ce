use Rattle.std.proofs.Common.{length}
use Rattle.sfc_run.proofs.worker_ends.+append_ends.Given as goal

abbrev pub decreases-append_ends : goal.decreases-append_ends
decreases-append_ends g l = length l.workers.now
