-- What a chart and a script write: a stated function of the bytes that were read.
use Rattle.std.specs.Prelude.{◌≡◌, ◌⊎◌, ℕ, Bool, List, [], Result, Ok, Err, ⊤}
use Rattle.std.specs.Io.KnownBytes.{Appends}
use Rattle.sfc_base.specs.Writing.{AppendsFront}
use Rattle.sfc_plant.specs.Plants.{PlantData}
use Rattle.sfc_script.specs.Scripts.{ScriptData, ScriptReads}
use Rattle.sfc_output.specs.sfc_debug.Steered.{Steered}
use Rattle.sfc_replay.specs.declared.replay_error.ReplayError.{ReplayError}
use Rattle.sfc_replay.specs.declared.replay_error.ReplayError.TheVariants.{Chart, Script, Read, Write, Memory}
use Rattle.sfc_script.specs.sfc_load.Accepted.{IsAccepted}
use Rattle.sfc_replay.specs.Acceptance.{IsRefusedFor, OfChart}
use Rattle.sfc_replay.specs.Opening.{IsScriptRefused, OfBoth, StopsReading}
use Rattle.sfc_output.specs.Output.{lines_of_play, debugger_of, text_of, any_amiss}
use Rattle.sfc_replay.specs.Reading.{Device, IsUntouched}

-- what a script is played on: the chart's plant, and the conditions that the script has
abbrev pub played_on : PlantData → ScriptData → Steered
played_on plant said = record { plant = plant; table = said.table }

-- The lines of the script's commands on a debugger of the chart's plant, and of the image after them.
pub record IsOutput (text script output : List ℕ) : Type 0 where
  pub plant : PlantData
  pub loaded : IsAccepted text plant
  pub said : ScriptData
  pub parsed : ScriptReads plant script (Ok said)
  pub lines : output ≡ lines_of_play (debugger_of (played_on plant said)) (text_of (played_on plant said)) [] said.commands

-- Whether something went amiss in it: a command was refused, or the scan of an instance ended with a fault or was passed over.
pub record IsAmiss (text script : List ℕ) (amiss : Bool) : Type 0 where
  pub plant : PlantData
  pub loaded : IsAccepted text plant
  pub said : ScriptData
  pub parsed : ScriptReads plant script (Ok said)
  pub found : amiss ≡ any_amiss (played_on plant said) [] said.commands

-- the output, of which the writer was given so much
abbrev pub Outputs : Device → Device → (List ℕ → Type 0) → Type 0
Outputs chart script Given = OfBoth chart script (λ text commands. (output : List ℕ) × IsOutput text commands output × Given output)

-- What replay answers, what it has taken from the readers of chart and script, and what it has written.
abbrev pub Replays : Device → Device → Device → {X : Type 0} → Result X ReplayError → Type 0
Replays chart script w (Ok done) = Outputs chart script (Appends w.0 w.1)
Replays chart script w (Err (Chart error)) =
    OfChart chart (λ text. IsRefusedFor text error) × IsUntouched script × IsUntouched w
Replays chart script w (Err (Script line)) =
    OfBoth chart script (λ text commands. IsScriptRefused text commands line) × IsUntouched w
Replays chart script w (Err Read) = StopsReading chart script × IsUntouched w
Replays chart script w (Err Write) = Outputs chart script (AppendsFront w.0 w.1)
Replays chart script w (Err Memory) = (StopsReading chart script × IsUntouched w) ⊎ Outputs chart script (AppendsFront w.0 w.1)

-- What replay_strict answers beside that, where it played all: whether something went amiss.
abbrev pub Finds : Device → Device → Result Bool ReplayError → Type 0
Finds chart script (Ok amiss) = OfBoth chart script (λ text commands. IsAmiss text commands amiss)
Finds chart script (Err error) = ⊤
