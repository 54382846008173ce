use Rattle.sfc_tokens.proofs.Spellings.{joined}
use Rattle.sfc_tokens.proofs.laws.spellings_join.Goals as goal

pub returns : goal.returns
returns c = joined
