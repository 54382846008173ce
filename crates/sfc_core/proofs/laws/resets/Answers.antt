use Rattle.sfc_instances.proofs.of_sfc_image.Written.{reset_here}
use Rattle.sfc_instances.specs.sfc_instance.Life.{fresh}
use Rattle.sfc_instances.proofs.InstanceState.{instance_state_here, instance_state_there}
use Rattle.sfc_core.specs.PlantState.{state_of}
use Rattle.sfc_core.proofs.laws.resets.Goals as goal

pub returns-clause-anew : goal.returns-clause-anew
unfolding state_of
returns-clause-anew c plant h p t = instance_state_here p.0 fresh (state_of plant h).instance_state

pub returns-clause-locals : goal.returns-clause-locals
unfolding state_of
returns-clause-locals c plant h p t id local = reset_here plant (state_of plant h).changes p id.0 local

pub returns-clause-others : goal.returns-clause-others
unfolding state_of
returns-clause-others c plant h p other t ne = instance_state_there p.0 fresh (state_of plant h).instance_state other.0 ne
