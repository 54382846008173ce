use Rattle.sfc_tokens.proofs.Outcomes.{some_outcome}
use Rattle.sfc_tokens.proofs.laws.some_lexing.Goals as goal

pub returns : goal.returns
returns c = some_outcome
