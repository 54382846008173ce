use Rattle.sfc_instance.proofs.Faults.{instance_state_stays}
use Rattle.sfc_instance.proofs.laws.faulted_instance_stays.Goals as goal

pub returns : goal.returns
returns c plant p instance_state changes t f e = instance_state_stays plant p instance_state changes t f instance_state.fault e
