use Rattle.sfc_tokens.proofs.Signs.{sign_spells}
use Rattle.sfc_tokens.proofs.laws.sign_spelled.Goals as goal

pub returns : goal.returns
returns c = sign_spells
