use Rattle.sfc_expr.proofs.Depends.{effect_same}
use Rattle.sfc_expr.proofs.laws.effect_on_values_alone.Goals as goal

pub returns : goal.returns
returns c body env = effect_same body env
