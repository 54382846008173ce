-- Texts that load as a plant.
use Rattle.std.specs.Prelude.{◌≡◌, ℕ, List, None, Ok}
use Rattle.sfc_text.specs.Reads.{TextReads}
use Rattle.sfc_text.specs.Trees.{SourceTree}
use Rattle.sfc_load.specs.Built.{source_check, plant_of}
use Rattle.sfc_plant.specs.Plants.{PlantData}

-- The text is read as a tree in which no check fails, and the plant is its.
pub record IsAccepted (text : List ℕ) (plant : PlantData) : Type 0 where
  pub tree : SourceTree
  pub read : TextReads text (Ok tree)
  pub passes : source_check tree ≡ None
  pub built : plant_of tree ≡ plant
