use Rattle.sfc_test.proofs.Counts.{text_each}
use Rattle.sfc_test.proofs.laws.one_text_each.Goals as goal

pub returns : goal.returns
returns c = text_each
