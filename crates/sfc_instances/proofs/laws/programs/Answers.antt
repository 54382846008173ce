use Rattle.sfc_instances.specs.PlantState.{program_scan}
use Rattle.sfc_instances.proofs.InstanceState.{instance_state_there}
use Rattle.sfc_instances.proofs.laws.programs.Goals as goal

pub returns : goal.returns
returns c plant p t state k ne = instance_state_there p.0 (program_scan plant t p.0 state).instance_state state.instance_state k ne
