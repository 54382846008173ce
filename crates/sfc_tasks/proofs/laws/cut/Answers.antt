use Rattle.sfc_tasks.proofs.Pasts.{past_cut}
use Rattle.sfc_tasks.proofs.laws.cut.Goals as goal

pub returns : goal.returns
returns c tasks calls other later e = past_cut tasks calls other later e
