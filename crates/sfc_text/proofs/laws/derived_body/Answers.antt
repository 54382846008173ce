use Rattle.sfc_text.proofs.NestingStatements.{body_needs}
use Rattle.sfc_text.proofs.laws.derived_body.Goals as goal

pub returns : goal.returns
returns c = λ limits ts block rest d. body_needs limits.operators limits.depth ts block rest d
