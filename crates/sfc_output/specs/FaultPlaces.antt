-- Where a fault is, in words (our choice of format).
use Rattle.std.specs.Prelude.{ℕ, suc, ◌-◌, ◌^◌, min, List, [], ◌++◌, codes, slice_get, Option, Some, None}
use Rattle.std.specs.Fmt.{decimal}
use Rattle.sfc_base.specs.declared.ids.ProgId.{ProgId}
use Rattle.sfc_plant.specs.declared.chart.Transition.{Transition}
use Rattle.sfc_plant.specs.Plants.{PlantData}
use Rattle.sfc_plant.specs.Finding.{chart_of}
use Rattle.sfc_plant.specs.InstanceSpaces.{space_of}
use Rattle.sfc_plant.specs.Names.{action_name}
use Rattle.sfc_plant.specs.PlantNames.{instance_name}
use Rattle.sfc_debug.specs.sfc_tables.ActionNames.{numbered_action}
use Rattle.sfc_debug.specs.sfc_tables.Tables.{tables_of}
use Rattle.sfc_debug.specs.sfc_instance.declared.fault_place.FaultPlace.{FaultPlace}
use Rattle.sfc_debug.specs.sfc_instance.declared.fault_place.FaultPlace.TheVariants as place
use Rattle.sfc_debug.specs.sfc_instance.declared.scan_fault.ScanFault.{ScanFault}
use Rattle.sfc_debug.specs.sfc_instance.FaultNames.{fault_name}
use Rattle.sfc_debug.specs.sfc_instance.Life.{InstanceState}
use Rattle.sfc_output.specs.Programs.{transition_text}

-- a name behind a blank, where there is one
abbrev pub name_behind : Option (List ℕ) → List ℕ
name_behind None = []
name_behind (Some name) = codes " " ++ name

-- that of a transition
abbrev pub name_of_transition : Option Transition → List ℕ
name_of_transition None = []
name_of_transition (Some transition) = name_behind transition.name

-- the number of a statement is printed from 1 on; 2^64 - 1 is the last one
abbrev pub statement_text : ℕ → List ℕ
statement_text s = decimal (min (suc s) (2 ^ 64 - 1))

-- where it is in the chart of a program instance: in the condition of a transition (2.6.3), in the control block of an action (2.6.4.5),
-- or in a statement of an action's body (2.6.4.1)
abbrev pub place_words : PlantData → ProgId → FaultPlace → List ℕ
place_words plant p (place.Transition tr) =
    codes " in the condition of TRANSITION " ++ transition_text tr.0 ++ name_of_transition (slice_get (chart_of plant p).transitions tr.0)
place_words plant p (place.Action a) =
    codes " in the control of action " ++ numbered_action (space_of plant p) (tables_of (chart_of plant p)) a.0
place_words plant p (place.Statement a s) =
    codes " in statement " ++ statement_text s ++ codes " of action " ++ action_name (space_of plant p) a

abbrev pub known_place : PlantData → ProgId → Option FaultPlace → List ℕ
known_place plant p None = []
known_place plant p (Some there) = place_words plant p there

-- the line of an instance that this fault ended, at this place
abbrev pub ended_line : PlantData → ProgId → ScanFault → Option FaultPlace → List ℕ
ended_line plant p fault there =
    codes "; " ++ instance_name plant p ++ codes " ended with " ++ fault_name fault ++ known_place plant p there
    ++ codes ", and isn't scanned until RESET " ++ instance_name plant p ++ codes "\n"

abbrev pub line_with : PlantData → ProgId → Option ScanFault → Option FaultPlace → List ℕ
line_with plant p None there = []
line_with plant p (Some fault) there = ended_line plant p fault there

-- the line of an instance that stands so, where a fault stands
abbrev pub faulted_line : PlantData → ProgId → InstanceState → List ℕ
faulted_line plant p instance_state = line_with plant p instance_state.fault instance_state.place
