use Rattle.sfc_expr.proofs.Typed.{value_typed}
use Rattle.sfc_expr.proofs.laws.value_has_type.Goals as goal

pub returns : goal.returns
returns c declared env e t gives typed = value_typed declared env gives e t typed
