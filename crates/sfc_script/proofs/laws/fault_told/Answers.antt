use Rattle.sfc_script.proofs.ToldLines.{told}
use Rattle.sfc_script.proofs.laws.fault_told.Goals as goal

pub returns : goal.returns
returns c = told
