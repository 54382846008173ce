use Rattle.sfc_tokens.proofs.Spaced.{name_spaced}
use Rattle.sfc_tokens.proofs.laws.spaced_name.Goals as goal

pub returns : goal.returns
returns c = name_spaced
