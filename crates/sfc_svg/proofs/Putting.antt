-- Drawings that are written, and such that aren't there.
use Rattle.std.proofs.Common.{ℕ, List, Option, Result, Ok, Err}
use Rattle.sfc_plant.specs.Plants.{PlantData}
use Rattle.sfc_replay.specs.declared.replay_error.ReplayError.TheVariants as replay
use Rattle.sfc_replay.specs.Reading.{Device, IsUntouched}
use Rattle.sfc_svg.specs.declared.svg_error.SvgError.{SvgError}
use Rattle.sfc_svg.specs.declared.svg_error.SvgError.TheVariants as svg
use Rattle.sfc_svg.specs.Drawn.{IsUndrawnFor}
use Rattle.sfc_svg.specs.Written.{IsPut, IsWritten}

module _ (plant : PlantData) (name : Option (List ℕ)) (IsDrawn : List ℕ → Type 0) (w : Device) where
  -- the drawing was given to the writer
  pub put : (text : List ℕ) → IsDrawn text → (result : Result (Unit {0}) SvgError) → IsWritten w text result
      → IsPut plant name IsDrawn w result
  put text drawn (Ok done) h = (text, drawn, h)
  put text drawn (Err svg.NoSuchType) h = absurd h
  put text drawn (Err svg.TooLarge) h = absurd h
  put text drawn (Err (svg.Replay (replay.Chart e))) h = absurd h
  put text drawn (Err (svg.Replay (replay.Script n))) h = absurd h
  put text drawn (Err (svg.Replay replay.Read)) h = absurd h
  put text drawn (Err (svg.Replay replay.Write)) h = (text, drawn, h)
  put text drawn (Err (svg.Replay replay.Memory)) h = absurd h

  -- there is none
  pub unput : (error : SvgError) → IsUndrawnFor plant name error → IsUntouched w → IsPut plant name IsDrawn w {X = Unit {0}} (Err error)
  unput svg.NoSuchType h untouched = (h, untouched)
  unput svg.TooLarge h untouched = untouched
  unput (svg.Replay (replay.Chart e)) h untouched = absurd h
  unput (svg.Replay (replay.Script n)) h untouched = absurd h
  unput (svg.Replay replay.Read) h untouched = absurd h
  unput (svg.Replay replay.Write) h untouched = absurd h
  unput (svg.Replay replay.Memory) h untouched = untouched
