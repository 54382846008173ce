-- Where draw_types ends.
use Rattle.std.proofs.Common.{ℕ, List, Option, Result, Ok, Err}
use Rattle.sfc_plant.specs.Plants.{PlantData}
use Rattle.sfc_replay.specs.sfc_load.Accepted.{IsAccepted}
use Rattle.sfc_replay.specs.declared.replay_error.ReplayError.{ReplayError}
use Rattle.sfc_replay.specs.declared.replay_error.ReplayError.TheVariants as replay
use Rattle.sfc_replay.specs.Acceptance.{Accepts, most}
use Rattle.sfc_replay.specs.Reading.{Device, IsUntouched, LosesAtMost, TakesAtMost}
use Rattle.sfc_replay.specs.Working.Faults.{IsInputFault}
use Rattle.sfc_replay.proofs.Taken.{lost}
use Rattle.sfc_svg.specs.declared.svg_error.SvgError.{SvgError}
use Rattle.sfc_svg.specs.declared.svg_error.SvgError.TheVariants as svg
use Rattle.sfc_svg.specs.Drawn.{IsDrawingOf}
use Rattle.sfc_svg.specs.Types.{DrawsTypes}
use Rattle.sfc_svg.specs.Written.{IsPut}

module _ (name : Option (List ℕ)) (chart w : Device) where
  -- the chart wasn't taken whole
  pub unread : (error : ReplayError) → IsInputFault error → LosesAtMost most chart → IsUntouched w
      → DrawsTypes name chart w {X = Unit {0}} (Err (svg.Replay error))
  unread (replay.Chart e) h taken untouched = absurd h
  unread (replay.Script n) h taken untouched = absurd h
  unread replay.Read h taken untouched = (taken, untouched)
  unread replay.Write h taken untouched = absurd h
  unread replay.Memory h taken untouched = (taken, untouched)

  module _ (text : List ℕ) (taken : TakesAtMost most chart text) where
    -- the chart was taken, and is refused
    pub refused : (error : ReplayError) → Accepts text (Err error) → IsUntouched w
        → DrawsTypes name chart w {X = Unit {0}} (Err (svg.Replay error))
    refused (replay.Chart e) h untouched = ((text, taken, h), untouched)
    refused (replay.Script n) h untouched = absurd h
    refused replay.Read h untouched = absurd h
    refused replay.Write h untouched = absurd h
    refused replay.Memory h untouched = (lost most chart.0 chart.1 text taken, untouched)

    -- it is a plant
    pub drawn : (plant : PlantData) → IsAccepted text plant → (result : Result (Unit {0}) SvgError)
        → IsPut plant name (IsDrawingOf plant name) w result → DrawsTypes name chart w result
    drawn plant loaded (Ok done) h = (text, taken, (plant, loaded, h))
    drawn plant loaded (Err svg.NoSuchType) h = (text, taken, (plant, loaded, h))
    drawn plant loaded (Err svg.TooLarge) h = (text, taken, (plant, loaded, h))
    drawn plant loaded (Err (svg.Replay (replay.Chart e))) h = absurd h
    drawn plant loaded (Err (svg.Replay (replay.Script n))) h = absurd h
    drawn plant loaded (Err (svg.Replay replay.Read)) h = absurd h
    drawn plant loaded (Err (svg.Replay replay.Write)) h = (text, taken, (plant, loaded, h))
    drawn plant loaded (Err (svg.Replay replay.Memory)) h = (lost most chart.0 chart.1 text taken, h)
