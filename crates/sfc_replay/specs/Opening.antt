-- What a chart and a script are opened as: a stated function of the bytes that were read.
use Rattle.std.specs.Prelude.{ℕ, ◌⊎◌, List, [], Result, Ok, Err, ⊤}
use Rattle.sfc_output.specs.sfc_debug.Agreement.{Agrees}
use Rattle.sfc_output.specs.sfc_debug.Steered.{steered_by}
use Rattle.sfc_script.specs.sfc_load.Accepted.{IsAccepted}
use Rattle.sfc_plant.specs.Plants.{PlantData}
use Rattle.sfc_script.specs.Scripts.{ScriptData, ScriptReads}
use Rattle.sfc_replay.specs.declared.opening.Opened.{Opened}
use Rattle.sfc_replay.specs.declared.replay_error.ReplayError.{ReplayError}
use Rattle.sfc_replay.specs.declared.replay_error.ReplayError.TheVariants.{Chart, Script, Read, Memory}
use Rattle.sfc_replay.specs.Acceptance.{IsRefusedFor, OfChart, most}
use Rattle.sfc_replay.specs.Reading.{Device, IsUntouched, TakesAtMost, LosesAtMost}

-- its commands, and the conditions of its debugger, as a script says them
abbrev pub said_by : Opened → ScriptData
said_by opened = record { commands = opened.commands.items; table = (steered_by opened.debugger).table }

-- The debugger is of the plant that the text is, and was told nothing; the commands and its conditions are those of the script.
pub record IsOpened (text script : List ℕ) (opened : Opened) : Type 0 where
  pub loaded : IsAccepted text (steered_by opened.debugger).plant
  pub parsed : ScriptReads (steered_by opened.debugger).plant script (Ok (said_by opened))
  pub untold : Agrees opened.debugger []

-- the chart is a plant over which the script has this faulty line
pub record IsScriptRefused (text script : List ℕ) (line : ℕ) : Type 0 where
  pub plant : PlantData
  pub loaded : IsAccepted text plant
  pub parsed : ScriptReads plant script (Err line)

-- what opening answers; want of memory says nothing
abbrev pub Opens : List ℕ → List ℕ → Result Opened ReplayError → Type 0
Opens text script (Ok opened) = IsOpened text script opened
Opens text script (Err (Chart error)) = IsRefusedFor text error
Opens text script (Err (Script line)) = IsScriptRefused text script line
Opens text script (Err Memory) = ⊤
Opens text script (Err _) = ⊥

-- ---- of what is taken from readers

-- the text is a plant
abbrev pub IsPlantText : List ℕ → Type 0
IsPlantText text = (plant : PlantData) × IsAccepted text plant

-- the bytes that were taken of the chart and of the script, and a fact of them
abbrev pub OfBoth : Device → Device → (List ℕ → List ℕ → Type 0) → Type 0
OfBoth chart script P = OfChart chart (λ text. (commands : List ℕ) × TakesAtMost most script commands × P text commands)

-- The chart was taken in part, and nothing of the script; or the chart is a plant, and the script was taken in part.
abbrev pub StopsReading : Device → Device → Type 0
StopsReading chart script =
    (LosesAtMost most chart × IsUntouched script) ⊎ (OfChart chart IsPlantText × LosesAtMost most script)

-- What opening both answers, and what it has taken from their readers.
abbrev pub OpensFrom : Device → Device → Result Opened ReplayError → Type 0
OpensFrom chart script (Ok opened) = OfBoth chart script (λ text commands. IsOpened text commands opened)
OpensFrom chart script (Err (Chart error)) = OfChart chart (λ text. IsRefusedFor text error) × IsUntouched script
OpensFrom chart script (Err (Script line)) = OfBoth chart script (λ text commands. IsScriptRefused text commands line)
OpensFrom chart script (Err Read) = StopsReading chart script
OpensFrom chart script (Err Memory) = StopsReading chart script
OpensFrom chart script (Err _) = ⊥
