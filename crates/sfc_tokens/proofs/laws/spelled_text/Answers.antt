use Rattle.sfc_tokens.proofs.Spellings.{text_lexes}
use Rattle.sfc_tokens.proofs.laws.spelled_text.Goals as goal

pub returns : goal.returns
returns c = text_lexes
