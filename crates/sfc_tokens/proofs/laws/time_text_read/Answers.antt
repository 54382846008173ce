use Rattle.sfc_tokens.proofs.TimeLaw.{time_is}
use Rattle.sfc_tokens.proofs.laws.time_text_read.Goals as goal

pub returns : goal.returns
returns c = time_is
