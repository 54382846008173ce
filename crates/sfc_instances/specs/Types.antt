-- Plants whose variables and actions have types, and what is done with them (2.4.2, 2.4.3, 3.3.2).
use Rattle.std.specs.Prelude.{ℕ, ◌<◌, All, length}
use Rattle.sfc_plant.specs.Plants.{PlantData}
use Rattle.sfc_instance.specs.sfc_image.Types.{BeginsTyped, GivesType}
use Rattle.sfc_instance.specs.Types.{IsTypedInstance, AreInstants}
use Rattle.sfc_instances.specs.PlantState.{PlantState}

-- each variable begins with a value of its type, and the actions of each instance have types
pub record IsTypedPlant (plant : PlantData) : Type 0 where
  pub begins : BeginsTyped plant
  pub instances : (k : ℕ) → k < length plant.instances → IsTypedInstance plant (record { 0 = k })

-- each value that was given to a variable is of its type, and each scan of a life was at an instant
pub record IsTypedState (plant : PlantData) (state : PlantState) : Type 0 where
  pub given : All (GivesType plant) state.changes
  pub instants : (k : ℕ) → AreInstants (state.instance_state k).life
