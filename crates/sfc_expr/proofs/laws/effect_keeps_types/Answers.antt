use Rattle.sfc_expr.proofs.Typed.{effect_typed}
use Rattle.sfc_expr.proofs.laws.effect_keeps_types.Goals as goal

pub returns : goal.returns
returns c declared env body gives typed = effect_typed declared body env gives typed
