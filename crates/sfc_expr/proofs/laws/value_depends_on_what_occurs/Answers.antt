use Rattle.sfc_expr.proofs.Depends.{value_same}
use Rattle.sfc_expr.proofs.laws.value_depends_on_what_occurs.Goals as goal

pub returns : goal.returns
returns c e one other agree = value_same e one other agree
