use Rattle.sfc_tokens.proofs.Spelled.{int_spells}
use Rattle.sfc_tokens.proofs.laws.int_spelled.Goals as goal

pub returns : goal.returns
returns c = int_spells
