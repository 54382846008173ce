use Rattle.sfc_expr.proofs.Division.{is_division}
use Rattle.sfc_expr.proofs.laws.division_towards_zero.Goals as goal

pub returns : goal.returns
returns c a b nonzero = is_division a b nonzero
