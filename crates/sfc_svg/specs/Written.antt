-- What writing a drawing answers, and what the writer was given.
use Rattle.std.specs.Prelude.{◌≡◌, ℕ, true, List, Option, Result, Ok, Err}
use Rattle.std.specs.Io.KnownBytes.{Appends}
use Rattle.sfc_base.specs.Writing.{AppendsFront}
use Rattle.sfc_plant.specs.Plants.{PlantData}
use Rattle.sfc_replay.specs.declared.replay_error.ReplayError.TheVariants as replay
use Rattle.sfc_replay.specs.Reading.{Device, IsUntouched}
use Rattle.sfc_svg.specs.declared.svg_error.SvgError.{SvgError}
use Rattle.sfc_svg.specs.declared.svg_error.SvgError.TheVariants as svg
use Rattle.sfc_svg.specs.Drawn.{is_missing}

-- the text was written, or a front of it before a fault of the writer
abbrev pub IsWritten : Device → List ℕ → {X : Type 0} → Result X SvgError → Type 0
IsWritten w text (Ok done) = Appends w.0 w.1 text
IsWritten w text (Err (svg.Replay replay.Write)) = AppendsFront w.0 w.1 text
IsWritten w text (Err _) = ⊥

-- a text that is such a drawing, of which the writer was given so much
abbrev pub IsGiven : (List ℕ → Type 0) → (List ℕ → Type 0) → Type 0
IsGiven IsDrawn Given = (text : List ℕ) × IsDrawn text × Given text

-- What writing such a drawing of a plant answers, and what was written: the drawing, or a front of it before a fault of the writer; else
-- nothing. A drawing that is too large, and want of memory, say nothing.
abbrev pub IsPut : PlantData → Option (List ℕ) → (List ℕ → Type 0) → Device → {X : Type 0} → Result X SvgError → Type 0
IsPut plant name IsDrawn w (Ok done) = IsGiven IsDrawn (Appends w.0 w.1)
IsPut plant name IsDrawn w (Err svg.NoSuchType) = (is_missing plant name ≡ true) × IsUntouched w
IsPut plant name IsDrawn w (Err svg.TooLarge) = IsUntouched w
IsPut plant name IsDrawn w (Err (svg.Replay replay.Write)) = IsGiven IsDrawn (AppendsFront w.0 w.1)
IsPut plant name IsDrawn w (Err (svg.Replay replay.Memory)) = IsUntouched w
IsPut plant name IsDrawn w (Err (svg.Replay _)) = ⊥
