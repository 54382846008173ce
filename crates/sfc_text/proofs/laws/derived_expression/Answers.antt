use Rattle.sfc_text.proofs.Nesting.{expression_needs}
use Rattle.sfc_text.proofs.laws.derived_expression.Goals as goal

pub returns : goal.returns
returns c = λ limits ts tree rest d. expression_needs limits.operators limits.depth ts tree rest d
