-- What of a run is shown, by names (our choice).
use Rattle.std.specs.Prelude.{ℕ, ◌≡◌, not, ◌||◌, List, ◌++◌, length, map, Some, codes, nat_eq}
use Rattle.sfc_base.specs.declared.ids.VarId.{VarId}
use Rattle.sfc_base.specs.declared.value.Value.{Value}
use Rattle.sfc_base.specs.Values as base
use Rattle.sfc_page.specs.Values.{line_end, value_text}
use Rattle.sfc_panel.specs.Watched.{shown_variables}
use Rattle.sfc_panel.specs.declared.watched.WatchError.{WatchError}
use Rattle.sfc_panel.specs.declared.watched.WatchError.TheVariants as watch_errors
use Rattle.sfc_events.specs.declared.command.Command.TheVariants.{Force}
use Rattle.sfc_plant.specs.PlantNames.{image_name}
use Rattle.sfc_plant.specs.Plants.{PlantData}
use Rattle.sfc_replay.specs.sfc_script.Names.{type_of}
use Rattle.sfc_replay.specs.sfc_script.SessionLines.{session_line}
use Rattle.sfc_replay.specs.sfc_script.declared.session_line.SessionLine.TheVariants.{Says}
use Rattle.sfc_run.specs.declared.picked.PickFault.{PickFault}
use Rattle.sfc_run.specs.declared.picked.PickFault.TheVariants.{NoVariable, Memory}
use Rattle.sfc_run.specs.declared.picked.Picked.{Picked}
use Rattle.sfc_run.specs.declared.screen.Shows.{Shows}

abbrev pub fault_of : WatchError → PickFault
fault_of (watch_errors.NoVariable k) = NoVariable k
fault_of watch_errors.Memory = Memory

-- a variable and its value, as it is shown
abbrev pub valued_line : PlantData → VarId → Value → List ℕ
valued_line plant id value = image_name plant id ++ codes " " ++ value_text value ++ line_end

-- a command that forces the variable of a name to the value that a word is
abbrev pub force_line : List ℕ → List ℕ → List ℕ
force_line name word = codes "FORCE " ++ name ++ codes " " ++ word

-- the line forces the variable to the value, which is of its type
pub record Forces (plant : PlantData) (line : List ℕ) (id : VarId) (value : Value) : Type 0 where
  pub says : session_line plant line ≡ Says (Force id value)
  pub typed : type_of plant id ≡ Some (base.type_of value)

-- the outputs, where they are wanted, and the variables of all names are shown; and something is, where something is wanted
pub record Picks (plant : PlantData) (picked : Picked) (shows : Shows) : Type 0 where
  pub variables : map Some shows.panel.variables.items ≡ shown_variables picked.changes plant picked.watched.items
  pub programs : shows.panel.programs ≡ picked.changes
  pub on : shows.is_on ≡ picked.changes || not (nat_eq (length picked.watched.items) 0)
