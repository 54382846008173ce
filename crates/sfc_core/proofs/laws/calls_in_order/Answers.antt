use Rattle.sfc_core.proofs.Ordered.{calls_in_order}
use Rattle.sfc_core.proofs.laws.calls_in_order.Goals as goal

pub returns : goal.returns
returns c plant h ordered = calls_in_order plant h ordered
