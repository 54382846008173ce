use Rattle.sfc_tokens.proofs.Spellings.{lexes_as}
use Rattle.sfc_tokens.proofs.laws.spelling_lexed.Goals as goal

pub returns : goal.returns
returns c = lexes_as
