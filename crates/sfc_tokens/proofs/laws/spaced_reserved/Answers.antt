use Rattle.sfc_tokens.proofs.Spaced.{reserved_spaced}
use Rattle.sfc_tokens.proofs.laws.spaced_reserved.Goals as goal

pub returns : goal.returns
returns c = reserved_spaced
