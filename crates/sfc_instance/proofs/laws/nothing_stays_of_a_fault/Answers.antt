use Rattle.sfc_instance.proofs.Faults.{life_stays, changes_stay}
use Rattle.sfc_instance.proofs.laws.nothing_stays_of_a_fault.Goals as goal

pub returns-clause-life : goal.returns-clause-life
returns-clause-life c plant p instance_state changes t f e = life_stays plant p instance_state changes t f instance_state.fault e

pub returns-clause-variables : goal.returns-clause-variables
returns-clause-variables c plant p instance_state changes t f e = changes_stay plant p instance_state changes t f instance_state.fault e
