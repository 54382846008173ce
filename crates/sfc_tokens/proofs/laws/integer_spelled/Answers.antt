use Rattle.sfc_tokens.proofs.Spelled.{integer_spells}
use Rattle.sfc_tokens.proofs.laws.integer_spelled.Goals as goal

pub returns : goal.returns
returns c = integer_spells
