use Rattle.sfc_tokens.proofs.DurationWords.{duration_lexes}
use Rattle.sfc_tokens.proofs.laws.duration_lexed.Goals as goal

pub returns : goal.returns
returns c = duration_lexes
