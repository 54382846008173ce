use Rattle.sfc_tokens.proofs.Outcomes.{one_outcome}
use Rattle.sfc_tokens.proofs.laws.one_lexing.Goals as goal

pub returns : goal.returns
returns c = one_outcome
