use Rattle.sfc_replay.proofs.TypedPlants.{plant_typed}
use Rattle.sfc_replay.proofs.laws.loaded_plants_are_typed.Goals as goal

pub returns : goal.returns
returns c = plant_typed
