-- What is written of a chart, and how far the writer was given it.
use Rattle.std.specs.Prelude.{ℕ, List, Result, Ok, Err, ⊤}
use Rattle.std.specs.Io.KnownBytes.{Appends}
use Rattle.sfc_base.specs.Writing.{AppendsFront}
use Rattle.sfc_plant.specs.Plants.{PlantData}
use Rattle.sfc_replay.specs.declared.replay_error.ReplayError.{ReplayError}
use Rattle.sfc_replay.specs.declared.replay_error.ReplayError.TheVariants.{Chart, Write, Memory}
use Rattle.sfc_replay.specs.Reading.{Device}
use Rattle.sfc_script.specs.sfc_load.Accepted.{IsAccepted}
use Rattle.sfc_replay.specs.Acceptance.{IsRefusedFor}

-- what checking a text answers; want of memory says nothing
abbrev pub Checks : List ℕ → {X : Type 0} → Result X ReplayError → Type 0
Checks text (Ok done) = (plant : PlantData) × IsAccepted text plant
Checks text (Err (Chart error)) = IsRefusedFor text error
Checks text (Err Memory) = ⊤
Checks text (Err _) = ⊥

-- the text was written, or a front of it before a fault of the writer
abbrev pub IsWritten : Device → List ℕ → {X : Type 0} → Result X ReplayError → Type 0
IsWritten w text (Ok done) = Appends w.0 w.1 text
IsWritten w text (Err Write) = AppendsFront w.0 w.1 text
IsWritten w text (Err _) = ⊥
