-- A script that was played on a chart, and what draw_after answers and writes: by the bytes that were read.
use Rattle.std.specs.Prelude.{◌≡◌, ◌⊎◌, ℕ, List, [], Option, Result, Ok, Err, ⊤}
use Rattle.sfc_plant.specs.Plants.{PlantData}
use Rattle.sfc_replay.specs.sfc_debug.declared.debugger.Debugger.{Debugger}
use Rattle.sfc_replay.specs.sfc_debug.Agreement.{Agrees}
use Rattle.sfc_replay.specs.sfc_debug.Steered.{steered_by}
use Rattle.sfc_replay.specs.sfc_instances.PlantState.{PlantState}
use Rattle.sfc_replay.specs.sfc_load.Accepted.{IsAccepted}
use Rattle.sfc_replay.specs.sfc_output.Output.{debugger_of, plant_state, session_after}
use Rattle.sfc_replay.specs.sfc_script.Scripts.{ScriptData, ScriptReads}
use Rattle.sfc_replay.specs.declared.replay_error.ReplayError.{ReplayError}
use Rattle.sfc_replay.specs.declared.replay_error.ReplayError.TheVariants as replay
use Rattle.sfc_replay.specs.Acceptance.{IsRefusedFor, OfChart}
use Rattle.sfc_replay.specs.Opening.{IsScriptRefused, OfBoth, StopsReading}
use Rattle.sfc_replay.specs.Reading.{Device, IsUntouched}
use Rattle.sfc_replay.specs.Replay.{played_on}
use Rattle.sfc_svg.specs.declared.svg_error.SvgError.{SvgError}
use Rattle.sfc_svg.specs.declared.svg_error.SvgError.TheVariants as svg
use Rattle.sfc_svg.specs.Standing.{IsDrawingAt}
use Rattle.sfc_svg.specs.Written.{IsPut}

-- ---- a debugger behind a script

-- The debugger is of the plant that the text is, with the conditions of the script, and was given its commands, one after the other.
pub record IsPlayed (text script : List ℕ) (debugger : Debugger) : Type 0 where
  pub loaded : IsAccepted text (steered_by debugger).plant
  pub said : ScriptData
  pub parsed : ScriptReads (steered_by debugger).plant script (Ok said)
  pub table : (steered_by debugger).table ≡ said.table
  pub given : Agrees debugger (session_after (debugger_of (steered_by debugger)) [] said.commands)

-- What debugger_after answers, and what it has taken from the readers of chart and script.
abbrev pub PlaysFrom : Device → Device → Result Debugger ReplayError → Type 0
PlaysFrom chart script (Ok debugger) = OfBoth chart script (λ text commands. IsPlayed text commands debugger)
PlaysFrom chart script (Err (replay.Chart error)) = OfChart chart (λ text. IsRefusedFor text error) × IsUntouched script
PlaysFrom chart script (Err (replay.Script line)) = OfBoth chart script (λ text commands. IsScriptRefused text commands line)
PlaysFrom chart script (Err replay.Read) = StopsReading chart script
PlaysFrom chart script (Err replay.Memory) = StopsReading chart script
PlaysFrom chart script (Err replay.Write) = ⊥

-- ---- the drawing behind it

-- how the plant stands when the commands of the script were given to its debugger
abbrev pub state_after : PlantData → ScriptData → PlantState
state_after plant said =
    plant_state (played_on plant said) ((debugger_of (played_on plant said)).state
    (session_after (debugger_of (played_on plant said)) [] said.commands))

-- the text is a plant, over which the script is one, with this fact of the plant and of how it stands when the script was played
pub record IsLeft (text script : List ℕ) (P : PlantData → PlantState → Type 0) : Type 0 where
  pub plant : PlantData
  pub loaded : IsAccepted text plant
  pub said : ScriptData
  pub parsed : ScriptReads plant script (Ok said)
  pub holds : P plant (state_after plant said)

-- of the chart and the script that were taken
abbrev pub OfPlay : Device → Device → (PlantData → PlantState → Type 0) → Type 0
OfPlay chart script P = OfBoth chart script (λ text commands. IsLeft text commands P)

-- What draw_after answers, what it has taken from the readers of chart and script, and what it has written.
abbrev pub DrawsAfter : Option (List ℕ) → Device → Device → Device → {X : Type 0} → Result X SvgError → Type 0
DrawsAfter name chart script w (Err (svg.Replay (replay.Chart error))) =
    OfChart chart (λ text. IsRefusedFor text error) × IsUntouched script × IsUntouched w
DrawsAfter name chart script w (Err (svg.Replay (replay.Script line))) =
    OfBoth chart script (λ text commands. IsScriptRefused text commands line) × IsUntouched w
DrawsAfter name chart script w (Err (svg.Replay replay.Read)) = StopsReading chart script × IsUntouched w
DrawsAfter name chart script w (Err (svg.Replay replay.Memory)) =
    (StopsReading chart script ⊎ OfPlay chart script (λ plant state. ⊤)) × IsUntouched w
DrawsAfter name chart script w result = OfPlay chart script (λ plant state. IsPut plant name (IsDrawingAt plant state name) w result)
