-- What `replay` prints of a chart and a script.
use Rattle.std.specs.Prelude.{ℕ, List}
use Rattle.sfc_replay.specs.Replay.{IsOutput}
use Rattle.sfc_tools.specs.Told.{Answer, Tells, IsUntoldOfBoth, read_of}

-- the lines of the commands, and of the image after them
abbrev pub TellsPlay : List ℕ → List ℕ → Answer → Type 0
TellsPlay chart script answer =
    Tells (IsOutput (read_of chart) (read_of script)) (IsUntoldOfBoth (read_of chart) (read_of script)) answer
