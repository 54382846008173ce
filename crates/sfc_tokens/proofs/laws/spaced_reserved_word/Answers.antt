use Rattle.sfc_tokens.proofs.Spaced.{reserved_word_spaced}
use Rattle.sfc_tokens.proofs.laws.spaced_reserved_word.Goals as goal

pub returns : goal.returns
returns c = reserved_word_spaced
