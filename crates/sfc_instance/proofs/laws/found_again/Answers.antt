use Rattle.sfc_instance.proofs.FoundAgain.{stands_found}
use Rattle.sfc_instance.proofs.laws.found_again.Goals as goal

pub returns : goal.returns
returns c plant p instance_state changes t f none e = stands_found plant p instance_state changes t instance_state.fault none f e
