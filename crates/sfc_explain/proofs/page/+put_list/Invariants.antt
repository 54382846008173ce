use Rattle.std.proofs.Common.{length}
use Rattle.sfc_explain.proofs.page.+put_list.Given as goal

abbrev pub decreases-put_list : goal.decreases-put_list
decreases-put_list g l = length l.explanations.now
