use Rattle.sfc_test.proofs.Counts.{failed_counted, passed_counted}
use Rattle.sfc_test.proofs.laws.counts.Goals as goal

pub returns-clause-passed : goal.returns-clause-passed
returns-clause-passed c = passed_counted

pub returns-clause-failed : goal.returns-clause-failed
returns-clause-failed c = failed_counted
