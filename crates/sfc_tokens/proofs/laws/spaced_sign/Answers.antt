use Rattle.sfc_tokens.proofs.Spaced.{sign_spaced}
use Rattle.sfc_tokens.proofs.laws.spaced_sign.Goals as goal

pub returns : goal.returns
returns c = sign_spaced
