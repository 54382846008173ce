-- Why a text is not opened, and how C is told of it (our choice).
use Rattle.std.specs.Prelude.{◌≡◌, ℕ, List, ℤ, pos, Option, Some, None, Result, Ok, Err, ⊤}
use Rattle.sfc_plant.specs.Plants.{PlantData}
use Rattle.sfc_text.specs.Reads.{TextReads}
use Rattle.sfc_text.specs.Trees.{SourceTree}
use Rattle.sfc_events.specs.ReadErrors as reading
use Rattle.sfc_events.specs.LoadErrors as loading
use Rattle.sfc_events.specs.declared.load_error.LoadError.{LoadError}
use Rattle.sfc_events.specs.declared.load_error.LoadError.TheVariants.{Limit}
use Rattle.sfc_events.specs.declared.load_error.Limit.{Limit as LimitKind}
use Rattle.sfc_events.specs.declared.load_error.Limit.TheVariants.{Steps, Transitions, Associations, Variables, Instances, Tasks}
use Rattle.sfc_replay.specs.sfc_load.Accepted.{IsAccepted}
use Rattle.sfc_replay.specs.sfc_load.Built.{source_check}
use Rattle.sfc_replay.specs.sfc_debug.declared.break_condition.BreakCondition.{BreakCondition}
use Rattle.sfc_replay.specs.sfc_script.Scripts.{ScriptData, ScriptReads}
use Rattle.sfc_replay.specs.declared.replay_error.ChartError.TheVariants as chart
use Rattle.sfc_replay.specs.declared.replay_error.ReplayError.{ReplayError}
use Rattle.sfc_replay.specs.declared.replay_error.ReplayError.TheVariants.{Chart, Script}
use Rattle.sfc_c.specs.declared.fault.Fault.{Fault}
use Rattle.sfc_c.specs.declared.fault.Fault.TheVariants.{Read, Load, Line, Memory}
use Rattle.sfc_c.specs.declared.fault.TextFault.{TextFault}
use Rattle.sfc_c.specs.Codes.{no_line, no_memory}

-- ---- which fault a text has

-- what is told of why a chart or a script isn't opened
abbrev pub fault_by : ReplayError → Fault
fault_by (Chart (chart.Read error)) = Read error
fault_by (Chart (chart.Load error)) = Load error
fault_by (Script line) = Line
fault_by _ = Memory

-- the text is no plant: what the reader finds, or the first check that fails; want of memory says nothing
abbrev pub Refuses : List ℕ → Fault → Type 0
Refuses text (Read error) = TextReads text (Err error.kind)
Refuses text (Load error) = (tree : SourceTree) × TextReads text (Ok tree) × (source_check tree ≡ Some error)
Refuses text Line = ⊥
Refuses text Memory = ⊤

-- what reading the conditions of a script answers; want of memory says nothing
abbrev pub SaysConditions : PlantData → List ℕ → Result (List BreakCondition) Fault → Type 0
SaysConditions plant script (Ok table) = (said : ScriptData) × ScriptReads plant script (Ok said) × (table ≡ said.table)
SaysConditions plant script (Err Line) = (n : ℕ) × ScriptReads plant script (Err n)
SaysConditions plant script (Err Memory) = ⊤
SaysConditions plant script (Err fault) = ⊥

-- the text is no plant, or the script has a line over the plant that is no command
abbrev pub RefusesBoth : List ℕ → List ℕ → Fault → Type 0
RefusesBoth text script Line = (plant : PlantData) × IsAccepted text plant × SaysConditions plant script (Err Line)
RefusesBoth text script fault = Refuses text fault

-- the first fault of a text, where it has one
abbrev pub Finds : List ℕ → Option Fault → Type 0
Finds text None = (plant : PlantData) × IsAccepted text plant
Finds text (Some fault) = Refuses text fault

-- memory was refused
abbrev pub out_of_memory : Fault
out_of_memory = Memory

-- ---- how it is told

-- the number by which it is told
abbrev pub number_of : Fault → ℤ
number_of (Read error) = pos (reading.number_of error.kind)
number_of (Load error) = pos (loading.number_of error)
number_of Line = no_line
number_of Memory = no_memory

-- 0 where there is none
abbrev pub number_found : Option Fault → ℤ
number_found None = pos 0
number_found (Some fault) = number_of fault

-- of what there is too much, in the order of the limits
abbrev pub limit_number : LimitKind → ℤ
limit_number Steps = pos 1
limit_number Transitions = pos 2
limit_number Associations = pos 3
limit_number Variables = pos 4
limit_number Instances = pos 5
limit_number Tasks = pos 6

abbrev pub limit_of : LoadError → ℤ
limit_of (Limit what) = limit_number what
limit_of error = pos 0

-- the reader's line, and which limit is passed; 0 where there is none
abbrev pub told_fault : Option Fault → TextFault
told_fault (Some (Read error)) = record { line = error.line; limit = pos 0 }
told_fault (Some (Load error)) = record { line = 0; limit = limit_of error }
told_fault _ = record { line = 0; limit = pos 0 }
