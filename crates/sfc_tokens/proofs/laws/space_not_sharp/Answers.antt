use Rattle.sfc_tokens.proofs.Spaced.{not_sharp}
use Rattle.sfc_tokens.proofs.laws.space_not_sharp.Goals as goal

pub returns : goal.returns
returns c = not_sharp
