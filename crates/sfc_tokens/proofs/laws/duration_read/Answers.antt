use Rattle.sfc_tokens.proofs.DurationWords.{word_sound, word_again}
use Rattle.sfc_tokens.proofs.laws.duration_read.Goals as goal

pub returns : goal.returns
returns c = λ word z. (word_sound word z, λ d. word_again d)
