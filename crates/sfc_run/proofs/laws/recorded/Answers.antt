use Rattle.sfc_run.proofs.Records.{is_record}
use Rattle.sfc_run.proofs.laws.recorded.Goals as goal

pub returns : goal.returns
returns c chart plant old new heard behind text shown kept loaded steered told = is_record chart plant old new heard behind text shown kept loaded steered told
