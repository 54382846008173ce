use Rattle.sfc_read_back.proofs.SpelledExpressions.{expression_spells}
use Rattle.sfc_read_back.proofs.laws.spelled_expression_text.Goals as goal

pub returns : goal.returns
returns c = λ space own e rest are ends. expression_spells space own e are rest ends
