use Rattle.sfc_test.proofs.Counts.{each_wanted}
use Rattle.sfc_test.proofs.laws.all_wanted.Goals as goal

pub returns : goal.returns
returns c = each_wanted
