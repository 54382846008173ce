-- What `list` prints of a chart.
use Rattle.std.specs.Prelude.{◌≡◌, ℕ, List}
use Rattle.sfc_plant.specs.Plants.{PlantData}
use Rattle.sfc_replay.specs.sfc_load.Accepted.{IsAccepted}
use Rattle.sfc_replay.specs.sfc_output.sfc_list.Listing.{listing}
use Rattle.sfc_tools.specs.Told.{Answer, Tells, IsUntold, read_of}

-- the text is that of the plant that the chart is
abbrev pub IsListing : List ℕ → List ℕ → Type 0
IsListing chart text = (plant : PlantData) × IsAccepted chart plant × (text ≡ listing plant)

abbrev pub TellsListing : List ℕ → Answer → Type 0
TellsListing chart answer = Tells (IsListing (read_of chart)) (IsUntold (read_of chart)) answer
