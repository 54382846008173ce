use Rattle.sfc_text.specs.Grammar.{expression}
use Rattle.sfc_text.proofs.Fine.{expression_fine}
use Rattle.sfc_text.proofs.Whole as whole
use Rattle.sfc_text.proofs.laws.one_expression.Goals as goal

pub returns : goal.returns
returns c = λ l m ts s t h g. whole.one_tree expression expression_fine l m ts s t h g
