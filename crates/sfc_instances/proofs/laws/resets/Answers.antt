use Rattle.sfc_instance.specs.Life.{fresh}
use Rattle.sfc_instances.proofs.InstanceState.{instance_state_here, instance_state_there}
use Rattle.sfc_instances.proofs.laws.resets.Goals as goal

pub returns-clause-anew : goal.returns-clause-anew
returns-clause-anew c p state = instance_state_here p.0 fresh state.instance_state

pub returns-clause-others : goal.returns-clause-others
returns-clause-others c p state k ne = instance_state_there p.0 fresh state.instance_state k ne
