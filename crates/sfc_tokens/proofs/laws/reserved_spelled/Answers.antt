use Rattle.sfc_tokens.proofs.Spelled.{reserved_spells}
use Rattle.sfc_tokens.proofs.laws.reserved_spelled.Goals as goal

pub returns : goal.returns
returns c = reserved_spells
