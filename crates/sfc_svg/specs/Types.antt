-- What draw_types answers and writes: by the bytes that were read.
use Rattle.std.specs.Prelude.{ℕ, List, Option, Result, Err}
use Rattle.sfc_plant.specs.Plants.{PlantData}
use Rattle.sfc_replay.specs.sfc_load.Accepted.{IsAccepted}
use Rattle.sfc_replay.specs.declared.replay_error.ReplayError.TheVariants as replay
use Rattle.sfc_replay.specs.Acceptance.{IsRefusedFor, OfChart, most}
use Rattle.sfc_replay.specs.Reading.{Device, IsUntouched, LosesAtMost}
use Rattle.sfc_svg.specs.declared.svg_error.SvgError.{SvgError}
use Rattle.sfc_svg.specs.declared.svg_error.SvgError.TheVariants as svg
use Rattle.sfc_svg.specs.Drawn.{IsDrawingOf}
use Rattle.sfc_svg.specs.Written.{IsPut}

-- the chart is a plant, with this fact
abbrev pub OfPlant : Device → (PlantData → Type 0) → Type 0
OfPlant chart P = OfChart chart (λ text. (plant : PlantData) × IsAccepted text plant × P plant)

-- What draw_types answers, what it has taken from the reader, and what it has written.
abbrev pub DrawsTypes : Option (List ℕ) → Device → Device → {X : Type 0} → Result X SvgError → Type 0
DrawsTypes name chart w (Err (svg.Replay (replay.Chart error))) = OfChart chart (λ text. IsRefusedFor text error) × IsUntouched w
DrawsTypes name chart w (Err (svg.Replay replay.Read)) = LosesAtMost most chart × IsUntouched w
DrawsTypes name chart w (Err (svg.Replay replay.Memory)) = LosesAtMost most chart × IsUntouched w
DrawsTypes name chart w (Err (svg.Replay (replay.Script line))) = ⊥
DrawsTypes name chart w result = OfPlant chart (λ plant. IsPut plant name (IsDrawingOf plant name) w result)
