use Rattle.sfc_script.proofs.Meanings.{one_script}
use Rattle.sfc_script.proofs.laws.one_script.Goals as goal

pub returns : goal.returns
returns c = one_script
