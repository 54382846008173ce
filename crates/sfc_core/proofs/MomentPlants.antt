-- How small plants and their histories are written, and what is seen of them. Instants and times are in milliseconds.
use Rattle.std.proofs.Common.{ℕ, suc, zero, ◌*◌, Bool, true, false, List, [], ◌∷◌, map, ℤ, pos, Option, Some, None, Result}
use Rattle.std.specs.Prelude.{codes, filter, length}
use Rattle.std.specs.List.{range_with_len}
use Rattle.sfc_base.specs.declared.var_type.VarType.{VarType}
use Rattle.sfc_base.specs.declared.var_type.VarType.TheVariants as types
use Rattle.sfc_base.specs.declared.location.Area.TheVariants as areas
use Rattle.sfc_base.specs.declared.location.Size.TheVariants as sizes
use Rattle.sfc_base.specs.declared.value.Value.{Value}
use Rattle.sfc_base.specs.declared.value.Value.TheVariants as value
use Rattle.sfc_expr.specs.declared.operator.Operator.TheVariants as op
use Rattle.sfc_base.specs.declared.references.StepId.{StepId}
use Rattle.sfc_base.specs.declared.references.Variable.{Variable}
use Rattle.sfc_base.specs.declared.references.Variable.TheVariants.{Global}
use Rattle.sfc_expr.specs.Trees.{Expression, Literal, Read, StepTime, Binary, Body}
use Rattle.sfc_base.specs.declared.qualifier.TimedQualifier.{TimedQualifier}
use Rattle.sfc_plant.specs.declared.association.Qualifier.{Qualifier}
use Rattle.sfc_plant.specs.declared.association.Qualifier.TheVariants.{Timed}
use Rattle.sfc_plant.specs.declared.association.Target.TheVariants.{Boolean, Declared}
use Rattle.sfc_plant.specs.declared.association.Time.TheVariants as time
use Rattle.sfc_plant.specs.declared.association.Association.{Association}
use Rattle.sfc_plant.specs.declared.action.Action.{Action}
use Rattle.sfc_plant.specs.declared.chart.Step.{Step}
use Rattle.sfc_plant.specs.declared.chart.Transition.{Transition}
use Rattle.sfc_plant.specs.declared.chart.Chart.{Chart}
use Rattle.sfc_instances.specs.sfc_tables.Tables.{Tabled, tables_of}
use Rattle.sfc_plant.specs.declared.variable.Variable as declared
use Rattle.sfc_plant.specs.declared.program_type.ProgramType.{ProgramType}
use Rattle.sfc_plant.specs.declared.instance.Instance.{Instance}
use Rattle.sfc_plant.specs.declared.task.Task.{Task}
use Rattle.sfc_plant.specs.Plants.{PlantData}
use Rattle.sfc_instances.specs.sfc_instance.declared.scan_fault.ScanFault.{ScanFault}
use Rattle.sfc_instances.specs.sfc_instance.declared.fault_place.FaultPlace.{FaultPlace}
use Rattle.sfc_plant.specs.Finding.{chart_of}
use Rattle.sfc_instances.specs.sfc_instance.Answers.{is_step_active, step_elapsed, is_transition_cleared, action_q, is_action_executed}
use Rattle.sfc_events.specs.declared.event.Event.TheVariants.{Scan, ForcedScan, Input, Force, Release, Reset}
use Rattle.sfc_events.specs.declared.event.Outcome.{Outcome}
use Rattle.sfc_events.specs.declared.refusal.Refusal.{Refusal}
use Rattle.sfc_events.specs.History.{TimedEvent, History}
use Rattle.sfc_core.specs.Answers.{value_of, instance_state_of, forced_of}
use Rattle.sfc_core.specs.Verdict.{verdict}

abbrev pub ms : ℕ → ℤ
ms n = pos (n * 1_000)

-- ---- variables

abbrev pub global : List ℕ → VarType → Value → declared.Variable
global name t initial = record { name = name; var_type = t; location = None; initial = initial }

-- a BOOL variable that begins with FALSE
abbrev pub flag : List ℕ → declared.Variable
flag name = global name types.Bool (value.Bool false)

abbrev pub int : List ℕ → ℕ → declared.Variable
int name n = global name types.Int (value.Int (pos n))

abbrev pub time_variable : List ℕ → ℕ → declared.Variable
time_variable name t = global name types.Time (value.Time (ms t))

-- a BOOL variable at %IX0.0
abbrev pub switch : List ℕ → Bool → declared.Variable
switch name initial = record {
  name = name;
  var_type = types.Bool;
  location = Some (record { area = areas.Input; size = sizes.Bit; numbers = 0 ∷ 0 ∷ [] });
  initial = value.Bool initial;
}

-- an INT variable at %IW0
abbrev pub dial : List ℕ → ℕ → declared.Variable
dial name n = record {
  name = name;
  var_type = types.Int;
  location = Some (record { area = areas.Input; size = sizes.Word; numbers = 0 ∷ [] });
  initial = value.Int (pos n);
}

-- the global variable of this number, as a program names it
abbrev pub the : ℕ → Variable
the n = Global (record { 0 = n })

-- ---- conditions

abbrev pub always : Expression
always = Literal (value.Bool true)

-- the global variable is TRUE
abbrev pub reads : ℕ → Expression
reads n = Read (the n)

-- the global INT variable, and an INT
abbrev pub number : ℕ → Expression
number n = Literal (value.Int (pos n))

-- the step's time is at least this
abbrev pub lasts : ℕ → ℕ → Expression
lasts s t = Binary op.GreaterOrEqual types.Time (StepTime (record { 0 = s })) (Literal (value.Time (ms t)))

-- ---- charts

-- the Boolean action that the global variable of this number is
abbrev pub sets : Qualifier → ℕ → Association
sets q n = record { target = Boolean (the n); qualifier = q; indicators = [] }

-- the declared action of this number
abbrev pub runs : Qualifier → ℕ → Association
runs q n = record { target = Declared (record { 0 = n }); qualifier = q; indicators = [] }

-- with a time
abbrev pub for : TimedQualifier → ℕ → Qualifier
for q t = Timed q (time.Literal (ms t))

-- with the time that a global variable reads
abbrev pub for_as_long_as : TimedQualifier → ℕ → Qualifier
for_as_long_as q n = Timed q (time.Variable (the n))

abbrev pub initial_step : List Association → Step
initial_step associations = record { name = codes "I"; is_initial = true; associations = associations }

abbrev pub step : List Association → Step
step associations = record { name = codes "S"; is_initial = false; associations = associations }

abbrev pub step_ids : List ℕ → List StepId
step_ids steps = map (λ (s : ℕ). let id : StepId = record { 0 = s } in id) steps

-- with a priority or without, from these steps to those
abbrev pub transition : Option ℕ → List ℕ → List ℕ → Expression → Transition
transition priority preceding following condition = record {
  name = None;
  priority = priority;
  preceding = step_ids preceding;
  following = step_ids following;
  condition = condition;
}

-- from one step to another
abbrev pub goes : ℕ → ℕ → Expression → Transition
goes a b condition = transition None (a ∷ []) (b ∷ []) condition

abbrev pub action : Body → Action
action body = record { name = codes "Act"; body = body }

abbrev pub chart : List Step → List Transition → List Action → Chart
chart steps transitions actions = record { steps = steps; transitions = transitions; actions = actions }

-- ---- plants

-- a task by an interval, with this priority
abbrev pub task : ℕ → ℕ → Task
task interval priority = record { name = codes "T"; single = None; interval = ms interval; priority = priority }

-- a task by a rise of a global variable too; an interval of 0 is none
abbrev pub single_task : ℕ → ℕ → ℕ → Task
single_task single interval priority =
    record { name = codes "T"; single = Some (record { 0 = single }); interval = ms interval; priority = priority }

abbrev pub program : List declared.Variable → Chart → ProgramType
program locals chart = record { name = codes "Mix"; locals = locals; externals = []; chart = chart }

-- an instance of the program type with this number, with this task
abbrev pub instance : ℕ → ℕ → Instance
instance t n = record { name = codes "P"; task = record { 0 = t }; program = record { 0 = n } }

abbrev pub plant : List declared.Variable → List Task → List ProgramType → List Instance → PlantData
plant globals tasks types instances = record {
  configuration = codes "C";
  resource = codes "R";
  processor = codes "Plc";
  globals = globals;
  tasks = tasks;
  types = types;
  instances = instances;
}

-- one program instance, with a task of 10 ms
abbrev pub small : List declared.Variable → Chart → PlantData
small globals chart = plant globals (task 10 1 ∷ []) (program [] chart ∷ []) (instance 0 0 ∷ [])

-- ---- events

-- a scan of the task with this number
abbrev pub scan_of : ℕ → ℕ → TimedEvent
scan_of k t = (Scan (record { 0 = k }), ms t)

abbrev pub scan : ℕ → TimedEvent
scan t = scan_of 0 t

abbrev pub forced_scan : ℕ → TimedEvent
forced_scan t = (ForcedScan (record { 0 = 0 }), ms t)

abbrev pub input : ℕ → Value → ℕ → TimedEvent
input n v t = (Input (record { 0 = n }) v, ms t)

abbrev pub force : ℕ → Value → ℕ → TimedEvent
force n v t = (Force (record { 0 = n }) v, ms t)

abbrev pub release : ℕ → ℕ → TimedEvent
release n t = (Release (record { 0 = n }), ms t)

abbrev pub reset : ℕ → ℕ → TimedEvent
reset p t = (Reset (record { 0 = p }), ms t)

-- so many scans, the first at 0, and 10 ms from each to the next
abbrev pub scans : ℕ → History
scans zero = []
scans (suc n) = scan (n * 10) ∷ scans n

-- what an event is answered
abbrev pub answer_to : PlantData → History → TimedEvent → Result Outcome Refusal
answer_to plant h timed_event = verdict plant h timed_event.0 timed_event.1

-- ---- what program instance p shows

abbrev pub tables_in : PlantData → ℕ → Tabled
tables_in plant p = tables_of (chart_of plant (record { 0 = p }))

abbrev pub active_in : PlantData → ℕ → History → List ℕ
active_in plant p h =
    filter (is_step_active (tables_in plant p) (instance_state_of plant h (record { 0 = p })))
    (range_with_len 0 (length (tables_in plant p).initial))

abbrev pub cleared_in : PlantData → ℕ → History → List ℕ
cleared_in plant p h =
    filter (is_transition_cleared (tables_in plant p) (instance_state_of plant h (record { 0 = p })))
    (range_with_len 0 (length (tables_in plant p).sides))

-- the actions that the latest scan executed
abbrev pub executed_in : PlantData → ℕ → History → List ℕ
executed_in plant p h =
    filter (is_action_executed (tables_in plant p) (instance_state_of plant h (record { 0 = p })))
    (range_with_len 0 (length (tables_in plant p).actions))

abbrev pub q_in : PlantData → ℕ → ℕ → History → Bool
q_in plant p a h = action_q (tables_in plant p) (instance_state_of plant h (record { 0 = p })) a

-- the time of step s
abbrev pub time_in : PlantData → ℕ → ℕ → History → ℤ
time_in plant p s h = step_elapsed (tables_in plant p) (instance_state_of plant h (record { 0 = p })) s

-- how many scans its life has had
abbrev pub life_in : PlantData → ℕ → History → ℕ
life_in plant p h = length (instance_state_of plant h (record { 0 = p })).life

abbrev pub fault_in : PlantData → ℕ → History → Option ScanFault
fault_in plant p h = (instance_state_of plant h (record { 0 = p })).fault

-- where it is
abbrev pub place_in : PlantData → ℕ → History → Option FaultPlace
place_in plant p h = (instance_state_of plant h (record { 0 = p })).place

-- ---- the same where there is one

abbrev pub active : PlantData → History → List ℕ
active plant h = active_in plant 0 h

abbrev pub cleared : PlantData → History → List ℕ
cleared plant h = cleared_in plant 0 h

abbrev pub executed : PlantData → History → List ℕ
executed plant h = executed_in plant 0 h

-- ---- variables by their numbers

abbrev pub read : PlantData → ℕ → History → Value
read plant n h = value_of plant h (record { 0 = n })

abbrev pub forced : PlantData → ℕ → History → Option Value
forced plant n h = forced_of plant h (record { 0 = n })
