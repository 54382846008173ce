-- The line of a program instance after a scan (our choice of format).
use Rattle.std.specs.Prelude.{ℕ, suc, Bool, List, [], ◌++◌, length, map, filter, codes, Option, Some, None}
use Rattle.std.specs.List.{range_with_len}
use Rattle.std.specs.Fmt.{decimal}
use Rattle.sfc_base.specs.TimeText.{time_text}
use Rattle.sfc_debug.specs.sfc_tables.Tables.{Tabled, tables_of}
use Rattle.sfc_plant.specs.Spaces.{Space}
use Rattle.sfc_base.specs.declared.ids.ProgId.{ProgId}
use Rattle.sfc_plant.specs.Plants.{PlantData}
use Rattle.sfc_debug.specs.sfc_instance.declared.scan_end.ScanEnd.{ScanEnd}
use Rattle.sfc_debug.specs.sfc_instance.declared.scan_end.ScanEnd.TheVariants.{Ran, Faulted, Skipped}
use Rattle.sfc_debug.specs.sfc_instance.declared.scan_fault.ScanFault.{ScanFault}
use Rattle.sfc_debug.specs.sfc_instance.FaultNames.{fault_name}
use Rattle.sfc_debug.specs.sfc_instance.Life.{InstanceState}
use Rattle.sfc_plant.specs.Finding.{chart_of}
use Rattle.sfc_plant.specs.InstanceSpaces.{space_of}
use Rattle.sfc_debug.specs.sfc_instance.Answers.{scan_count, is_step_active, step_elapsed, is_transition_cleared, is_action_executed}
use Rattle.sfc_plant.specs.Names.{step_name}
use Rattle.sfc_output.specs.Lists.{listed}
use Rattle.sfc_plant.specs.PlantNames.{instance_name}
use Rattle.sfc_debug.specs.sfc_tables.ActionNames.{numbered_action}
use Rattle.sfc_page.specs.Values.{line_end}

-- the texts of those of n places, from place k on, that are in a set
unfoldable pub texts_from : (ℕ → Bool) → (ℕ → List ℕ) → ℕ → ℕ → List (List ℕ)
texts_from is_in text k n = map text (filter is_in (range_with_len k n))

-- a step's name and time
abbrev pub step_text : Space → Tabled → InstanceState → ℕ → List ℕ
step_text space tables instance_state s =
    step_name space (record { 0 = s }) ++ codes "=" ++ time_text (step_elapsed tables instance_state s)

-- the active steps in text order, with their times
abbrev pub step_texts : Space → Tabled → InstanceState → List (List ℕ)
step_texts space tables instance_state =
    texts_from (is_step_active tables instance_state) (step_text space tables instance_state) 0 (length tables.initial)

-- the number of a transition is printed from 1 on
abbrev pub transition_text : ℕ → List ℕ
transition_text tr = decimal (suc tr)

-- the cleared transitions in text order
abbrev pub cleared_texts : Tabled → InstanceState → List (List ℕ)
cleared_texts tables instance_state =
    texts_from (is_transition_cleared tables instance_state) transition_text 0 (length tables.sides)

-- the executed actions: first the Boolean ones, in the order of their first associations, and then the declared ones
abbrev pub executed_texts : Space → Tabled → InstanceState → List (List ℕ)
executed_texts space tables instance_state =
    texts_from (is_action_executed tables instance_state) (numbered_action space tables) 0 (length tables.actions)

-- ---- lines

-- two blanks and a name
abbrev pub program_head : PlantData → ProgId → List ℕ
program_head plant p = codes "  " ++ instance_name plant p

-- what stands before the steps, where the scan ran: the name, how many scans the life has had, and the word before the steps
unfoldable pub scans_text : List ℕ → ℕ → List ℕ
scans_text name n = codes "  " ++ name ++ codes " " ++ decimal n ++ codes " steps "

-- how many scans its life has had, its active steps, its cleared transitions and its executed actions
abbrev pub scan_text : Space → Tabled → InstanceState → List ℕ
scan_text space tables instance_state =
    codes " " ++ decimal (scan_count instance_state)
    ++ codes " steps " ++ listed (step_texts space tables instance_state)
    ++ codes " cleared " ++ listed (cleared_texts tables instance_state)
    ++ codes " run " ++ listed (executed_texts space tables instance_state)

abbrev pub fault_text : Option ScanFault → List ℕ
fault_text None = []
fault_text (Some f) = fault_name f

-- what is written of a scan that ended so: what it did, or the fault that ended it or an earlier one
abbrev pub end_text : Space → Tabled → InstanceState → ScanEnd → List ℕ
end_text space tables instance_state Ran = scan_text space tables instance_state
end_text space tables instance_state Faulted = codes " fault " ++ fault_text instance_state.fault
end_text space tables instance_state Skipped = codes " skipped " ++ fault_text instance_state.fault

-- the line of an instance that stands so after a scan
unfoldable pub program_line : PlantData → ProgId → InstanceState → ScanEnd → List ℕ
program_line plant p instance_state scan_end =
    program_head plant p ++ end_text (space_of plant p) (tables_of (chart_of plant p)) instance_state scan_end ++ line_end
