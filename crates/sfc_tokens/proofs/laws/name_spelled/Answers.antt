use Rattle.sfc_tokens.proofs.Spelled.{name_spells}
use Rattle.sfc_tokens.proofs.laws.name_spelled.Goals as goal

pub returns : goal.returns
returns c = name_spells
