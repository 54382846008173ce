use Rattle.sfc_tokens.proofs.Spelled.{dint_spells}
use Rattle.sfc_tokens.proofs.laws.dint_spelled.Goals as goal

pub returns : goal.returns
returns c = dint_spells
