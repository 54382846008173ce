-- A script that is opened over a plant.
use Rattle.std.specs.Prelude.{◌≡◌, ℕ, List, [], Result, Ok, Err, ⊤}
use Rattle.sfc_output.specs.sfc_debug.Agreement.{Agrees}
use Rattle.sfc_output.specs.sfc_debug.Steered.{steered_by}
use Rattle.sfc_plant.specs.Plants.{PlantData}
use Rattle.sfc_script.specs.Scripts.{ScriptReads}
use Rattle.sfc_replay.specs.declared.opening.Opened.{Opened}
use Rattle.sfc_replay.specs.declared.replay_error.ReplayError.{ReplayError}
use Rattle.sfc_replay.specs.declared.replay_error.ReplayError.TheVariants.{Script, Memory}
use Rattle.sfc_replay.specs.Opening.{said_by}

-- The debugger is of this plant and was told nothing; the commands and its conditions are those of the script.
pub record IsOpenedOn (plant : PlantData) (script : List ℕ) (opened : Opened) : Type 0 where
  pub plant_same : (steered_by opened.debugger).plant ≡ plant
  pub parsed : ScriptReads plant script (Ok (said_by opened))
  pub untold : Agrees opened.debugger []

-- want of memory says nothing
abbrev pub OpensOn : PlantData → List ℕ → Result Opened ReplayError → Type 0
OpensOn plant script (Ok opened) = IsOpenedOn plant script opened
OpensOn plant script (Err (Script line)) = ScriptReads plant script (Err line)
OpensOn plant script (Err Memory) = ⊤
OpensOn plant script (Err _) = ⊥
