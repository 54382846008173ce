use Rattle.sfc_read_back.proofs.SpelledBodies.{body_spells}
use Rattle.sfc_read_back.proofs.laws.spelled_body_text.Goals as goal

pub returns : goal.returns
returns c = λ space own level body rest are. body_spells space own level body are rest
