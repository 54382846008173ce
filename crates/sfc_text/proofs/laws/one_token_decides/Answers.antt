use Rattle.sfc_text.proofs.Fine.{source_fine}
use Rattle.sfc_text.proofs.laws.one_token_decides.Goals as goal

pub returns : goal.returns
returns c = source_fine
