use Rattle.sfc_read_back.proofs.SpelledLiterals.{literal_spells}
use Rattle.sfc_read_back.proofs.laws.spelled_literal.Goals as goal

pub returns : goal.returns
returns c = literal_spells
