use Rattle.sfc_text.proofs.Spelled.{expression_derives}
use Rattle.sfc_text.proofs.laws.spelled_expression.Goals as goal

pub returns : goal.returns
returns c = λ limits tree rest deep many. expression_derives limits.operators limits.depth tree rest deep many
