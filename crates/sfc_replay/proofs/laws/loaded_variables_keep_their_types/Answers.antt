use Rattle.std.proofs.Common.{subst}
use Rattle.sfc_output.specs.sfc_instances.Types.{IsTypedPlant}
use Rattle.sfc_replay.proofs.laws.loaded_variables_keep_their_types.Goals as goal

pub returns : goal.returns
returns c = λ text plant events id accepted range.
    c.types.ensures.reads plant events id
    (subst IsTypedPlant accepted.built (c.loaded_plants_are_typed.ensures accepted.tree accepted.passes)) range
