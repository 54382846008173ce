-- The lines of scans and of program instances, piece by piece.
use Rattle.std.specs.Prelude.{ℕ, ℤ, List, [], ◌++◌, codes, Option, None, Some, if◌then◌else◌}
use Rattle.std.specs.Fmt.{decimal}
use Rattle.sfc_base.specs.declared.ids.ProgId.{ProgId}
use Rattle.sfc_base.specs.TimeText.{time_text}
use Rattle.sfc_events.specs.InstanceSets.{has}
use Rattle.sfc_events.specs.declared.instance_set.InstanceSet.{InstanceSet}
use Rattle.sfc_debug.specs.sfc_instance.declared.scan_end.ScanEnd.{ScanEnd}
use Rattle.sfc_debug.specs.sfc_instance.declared.scan_end.ScanEnd.TheVariants.{Faulted, Skipped}
use Rattle.sfc_debug.specs.sfc_tables.Tables.{Tabled}
use Rattle.sfc_plant.specs.Plants.{PlantData}
use Rattle.sfc_plant.specs.Spaces.{Space}
use Rattle.sfc_debug.specs.sfc_instance.Life.{InstanceState}
use Rattle.sfc_output.specs.Lists.{listed}
use Rattle.sfc_debug.specs.sfc_instance.Answers.{scan_count}
use Rattle.sfc_debug.specs.sfc_instance.declared.scan_fault.ScanFault.{ScanFault}
use Rattle.sfc_plant.specs.PlantNames.{instance_name}
use Rattle.sfc_output.specs.Programs.{cleared_texts, executed_texts, step_texts, fault_text, scans_text}
use Rattle.sfc_page.specs.Values.{line_end}

-- how the scan of instance k ended that didn't run
abbrev pub other_end : InstanceSet → InstanceSet → ℕ → Option ScanEnd
other_end faulted skipped k = if has faulted k then Some Faulted else if has skipped k then Some Skipped else None

-- the head of the line of a program instance that stands so
abbrev pub head_text : PlantData → ProgId → InstanceState → List ℕ
head_text plant p instance_state = scans_text (instance_name plant p) (scan_count instance_state)

-- a name and a time
unfoldable pub timed_text : List ℕ → ℤ → List ℕ
timed_text name t = name ++ codes "=" ++ time_text t

-- the line of a scan that hit no breakpoint, piece by piece
unfoldable pub scanned_text : ℤ → List ℕ → ℕ → List ℕ
scanned_text t task overruns =
    time_text t ++ codes " SCAN " ++ task ++ codes " overruns " ++ decimal overruns ++ line_end

-- the same as the line of a command
unfoldable pub scanned_line : ℤ → List ℕ → ℕ → List ℕ
scanned_line t task overruns =
    time_text t ++ (codes " SCAN " ++ task) ++ (codes " overruns " ++ decimal overruns ++ []) ++ line_end

-- the end of the line of a program instance that stands so
unfoldable pub done_text : Space → Tabled → InstanceState → List ℕ
done_text space tables instance_state =
    codes " cleared " ++ listed (cleared_texts tables instance_state)
    ++ codes " run " ++ listed (executed_texts space tables instance_state) ++ line_end

-- what is lacking of a line, where a place tells that its end is: the end
abbrev pub lacking : Option ℕ → List ℕ → List ℕ
lacking None end = []
lacking (Some place) end = end

-- what follows the head in that line, where the scan ran: the steps, and what the scan did
unfoldable pub did_text : Space → Tabled → InstanceState → List ℕ
did_text space tables instance_state = listed (step_texts space tables instance_state) ++ done_text space tables instance_state

-- the line of a program instance that stands so, whose scan ran, piece by piece
unfoldable pub ran_text : List ℕ → Space → Tabled → InstanceState → List ℕ
ran_text name space tables instance_state =
    scans_text name (scan_count instance_state) ++ listed (step_texts space tables instance_state) ++ done_text space tables instance_state

-- the line of a program instance whose scan ended with a fault, or was passed over for one
unfoldable pub fault_line : List ℕ → List ℕ → Option ScanFault → List ℕ
fault_line name word fault = codes "  " ++ name ++ word ++ fault_text fault ++ line_end
