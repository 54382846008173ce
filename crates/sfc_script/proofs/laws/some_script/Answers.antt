use Rattle.sfc_script.proofs.Meanings.{some_script}
use Rattle.sfc_script.proofs.laws.some_script.Goals as goal

pub returns : goal.returns
returns c = some_script
