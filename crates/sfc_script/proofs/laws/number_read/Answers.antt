use Rattle.sfc_script.proofs.Decimals.{number_read}
use Rattle.sfc_script.proofs.laws.number_read.Goals as goal

pub returns : goal.returns
returns c z small = number_read z small
