use Rattle.sfc_evolve.proofs.Pasts.{past_cut}
use Rattle.sfc_evolve.proofs.laws.cut.Goals as goal

pub returns : goal.returns
returns c tables scans other later sound e = past_cut tables sound scans other later e
