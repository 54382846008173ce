use Rattle.sfc_tokens.proofs.Spellings.{lexes_behind}
use Rattle.sfc_tokens.proofs.laws.spelling_lexes.Goals as goal

pub returns : goal.returns
returns c = lexes_behind
