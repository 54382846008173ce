use Rattle.sfc_tokens.proofs.Spaced.{spaced}
use Rattle.sfc_tokens.proofs.laws.spaced_token.Goals as goal

pub returns : goal.returns
returns c = spaced
