use Rattle.sfc_tokens.proofs.Spellings.{alone}
use Rattle.sfc_tokens.proofs.laws.token_spells.Goals as goal

pub returns : goal.returns
returns c = alone
