use Rattle.sfc_script.proofs.Splits.{stays}
use Rattle.sfc_script.proofs.laws.first_line_stays.Goals as goal

pub returns : goal.returns
returns c bytes line rest more ended = stays bytes line rest more ended
