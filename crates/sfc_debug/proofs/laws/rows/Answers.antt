use Rattle.sfc_debug.proofs.Sums.{rows_more}
use Rattle.sfc_debug.proofs.laws.rows.Goals as goal

pub returns-clause-more : goal.returns-clause-more
returns-clause-more c plant table mask h command raw answer given = rows_more plant table mask h command raw answer given
