use Rattle.sfc_read_back.proofs.ReadBack.{loads_back}
use Rattle.sfc_read_back.proofs.laws.read_back.Goals as goal

pub returns : goal.returns
returns c = loads_back
