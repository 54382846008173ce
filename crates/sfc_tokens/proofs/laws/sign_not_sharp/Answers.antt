use Rattle.sfc_tokens.proofs.Signs.{no_sharp}
use Rattle.sfc_tokens.proofs.laws.sign_not_sharp.Goals as goal

pub returns : goal.returns
returns c = no_sharp
