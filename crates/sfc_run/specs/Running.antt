-- A chart that runs in real time: what it is opened with, and its exit status.
use Rattle.std.specs.Prelude.{ℕ, ◌≡◌, ◌⊎◌, List, Result, Ok, Err}
use Rattle.sfc_control.specs.sfc_debug.Agreement.{plant_of}
use Rattle.sfc_control.specs.sfc_debug.declared.trace_mask.TraceMask.{TraceMask}
use Rattle.sfc_replay.specs.sfc_load.Accepted.{IsAccepted}
use Rattle.sfc_replay.specs.declared.replay_error.ReplayError.{ReplayError}
use Rattle.sfc_run.specs.declared.run_opening.RunDebuggers.{RunDebuggers}
use Rattle.sfc_replay.specs.Acceptance.{Accepts, OfChart}
use Rattle.sfc_replay.specs.Reading.{Device}

-- commands of all kinds
abbrev pub every_kind : TraceMask
every_kind = record { 0 = 127 }

-- each debugger has the plant that the text is, or it is none
abbrev pub Opens : List ℕ → Result RunDebuggers ReplayError → Type 0
Opens text (Ok opened) =
    IsAccepted text (plant_of opened.debugger) × IsAccepted text (plant_of opened.names) × IsAccepted text (plant_of opened.follower)
    × IsAccepted text (plant_of opened.before)
Opens text (Err error) = Accepts text (Err error)

-- the same of the text that was taken from a reader
abbrev pub OpensFrom : Device → RunDebuggers → Type 0
OpensFrom chart opened = OfChart chart (λ text. Opens text (Ok opened))

-- the exit statuses of a run
abbrev pub IsRunStatus : ℕ → Type 0
IsRunStatus status = (status ≡ 0) ⊎ (status ≡ 1) ⊎ (status ≡ 3) ⊎ (status ≡ 4)
