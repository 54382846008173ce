use Rattle.sfc_tokens.proofs.Spelled.{reserved_word_spells}
use Rattle.sfc_tokens.proofs.laws.reserved_word_spelled.Goals as goal

pub returns : goal.returns
returns c = reserved_word_spells
