-- What check_chart and list_chart answer and write: stated functions of the bytes that were read.
use Rattle.std.specs.Prelude.{◌≡◌, ℕ, List, codes, Some, Result, Ok, Err, ⊤}
use Rattle.std.specs.Io.KnownBytes.{Appends}
use Rattle.sfc_text.specs.Reads.{TextReads}
use Rattle.sfc_text.specs.Trees.{SourceTree}
use Rattle.sfc_base.specs.Writing.{AppendsFront}
use Rattle.sfc_script.specs.sfc_load.Accepted.{IsAccepted}
use Rattle.sfc_script.specs.sfc_load.Built.{source_check}
use Rattle.sfc_plant.specs.Plants.{PlantData}
use Rattle.sfc_replay.specs.declared.replay_error.ChartError.{ChartError}
use Rattle.sfc_replay.specs.declared.replay_error.ChartError.TheVariants as chart
use Rattle.sfc_replay.specs.declared.replay_error.ReplayError.{ReplayError}
use Rattle.sfc_replay.specs.declared.replay_error.ReplayError.TheVariants.{Chart, Read, Write, Memory}
use Rattle.sfc_replay.specs.Reading.{Device, IsUntouched, TakesAtMost, LosesAtMost}

-- why the text is no plant: what the reader finds, or the first check that fails
abbrev pub IsRefusedFor : List ℕ → ChartError → Type 0
IsRefusedFor text (chart.Read error) = TextReads text (Err error.kind)
IsRefusedFor text (chart.Load error) = (tree : SourceTree) × TextReads text (Ok tree) × (source_check tree ≡ Some error)

-- what loading a text answers; want of memory says nothing
abbrev pub Accepts : List ℕ → Result PlantData ReplayError → Type 0
Accepts text (Ok plant) = IsAccepted text plant
Accepts text (Err (Chart error)) = IsRefusedFor text error
Accepts text (Err Memory) = ⊤
Accepts text (Err _) = ⊥

-- the most bytes that are taken from a reader
abbrev pub most : ℕ
most = 1048577

-- the bytes that were taken of the chart, and a fact of them
abbrev pub OfChart : Device → (List ℕ → Type 0) → Type 0
OfChart chart P = (text : List ℕ) × TakesAtMost most chart text × P text

-- the chart is a plant, and of what is to be written of it the writer was given so much
abbrev pub Tells : (PlantData → List ℕ) → Device → (List ℕ → Type 0) → Type 0
Tells output chart Given = OfChart chart (λ text. (plant : PlantData) × IsAccepted text plant × Given (output plant))

-- What a call answers that writes this output of a plant, what it has taken from the reader, and what it has written.
abbrev pub Answers : (PlantData → List ℕ) → Device → Device → {X : Type 0} → Result X ReplayError → Type 0
Answers output chart w (Ok done) = Tells output chart (Appends w.0 w.1)
Answers output chart w (Err (Chart error)) = OfChart chart (λ text. IsRefusedFor text error) × IsUntouched w
Answers output chart w (Err Read) = LosesAtMost most chart × IsUntouched w
Answers output chart w (Err Write) = Tells output chart (AppendsFront w.0 w.1)
Answers output chart w (Err Memory) = LosesAtMost most chart × IsUntouched w
Answers output chart w (Err _) = ⊥

-- what check_chart writes of each plant
abbrev pub acceptance : PlantData → List ℕ
acceptance plant = codes "ok\n"
