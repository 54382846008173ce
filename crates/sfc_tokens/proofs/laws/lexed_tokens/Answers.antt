use Rattle.sfc_tokens.proofs.Standing.{tokens_stand}
use Rattle.sfc_tokens.proofs.laws.lexed_tokens.Goals as goal

pub returns : goal.returns
returns c = tokens_stand
