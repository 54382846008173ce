use Rattle.sfc_expr.proofs.Unassigned.{unassigned}
use Rattle.sfc_expr.proofs.laws.unassigned_stays.Goals as goal

pub returns : goal.returns
returns c v body env off = unassigned v body env off
