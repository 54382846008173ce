-- What `draw` prints of a chart, and of a chart behind a script.
use Rattle.std.specs.Prelude.{ℕ, List, None}
use Rattle.sfc_plant.specs.Plants.{PlantData}
use Rattle.sfc_replay.specs.sfc_load.Accepted.{IsAccepted}
use Rattle.sfc_svg.specs.Drawn.{IsDrawingOf}
use Rattle.sfc_svg.specs.Played.{IsLeft}
use Rattle.sfc_svg.specs.Standing.{IsDrawingAt}
use Rattle.sfc_tools.specs.Told.{Answer, Tells, IsUntold, IsUntoldOfBoth, OrTooLarge, read_of}

-- a drawing of the program types of the plant that the chart is
abbrev pub IsDrawing : List ℕ → List ℕ → Type 0
IsDrawing chart text = (plant : PlantData) × IsAccepted chart plant × IsDrawingOf plant None text

abbrev pub TellsDrawing : List ℕ → Answer → Type 0
TellsDrawing chart answer = Tells (IsDrawing (read_of chart)) (OrTooLarge (IsUntold (read_of chart))) answer

-- a drawing of its program instances, as they stand when the script was played
abbrev pub IsDrawingBehind : List ℕ → List ℕ → List ℕ → Type 0
IsDrawingBehind chart script text = IsLeft chart script (λ plant state. IsDrawingAt plant state None text)

abbrev pub TellsDrawingBehind : List ℕ → List ℕ → Answer → Type 0
TellsDrawingBehind chart script answer =
    Tells (IsDrawingBehind (read_of chart) (read_of script)) (OrTooLarge (IsUntoldOfBoth (read_of chart) (read_of script))) answer
