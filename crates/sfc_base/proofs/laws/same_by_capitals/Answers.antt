use Rattle.sfc_base.proofs.SameWords.{by_capitals}
use Rattle.sfc_base.proofs.laws.same_by_capitals.Goals as goal

pub returns : goal.returns
returns c = by_capitals
