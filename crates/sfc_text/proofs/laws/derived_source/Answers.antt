use Rattle.sfc_text.proofs.Keeping.{keeps}
use Rattle.sfc_text.proofs.laws.derived_source.Goals as goal

pub returns : goal.returns
returns c = λ limits ts s d. keeps limits ts s d
