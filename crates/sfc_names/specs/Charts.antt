-- Charts that were read.
use Rattle.std.specs.Prelude.{◌≡◌, None}
use Rattle.sfc_plant.specs.Plants.{PlantData}
use Rattle.sfc_script.specs.sfc_load.Built.{source_check, plant_of}
use Rattle.sfc_text.specs.Trees.{source_of}
use Rattle.sfc_text.specs.declared.tree.Source.{Source}

-- no check fails in the tree, and the plant is its
abbrev pub IsBuilt : Source → PlantData → Type 0
IsBuilt source plant = (source_check (source_of source) ≡ None) × (plant_of (source_of source) ≡ plant)
