use Rattle.std.proofs.Common.{refl}
use Rattle.sfc_instance.proofs.FoundAgain.{stands_placed}
use Rattle.sfc_instance.proofs.laws.placed.Goals as goal

pub returns-clause-scan : goal.returns-clause-scan
returns-clause-scan c plant p instance_state changes t e = stands_placed plant p instance_state changes t instance_state.fault refl e
