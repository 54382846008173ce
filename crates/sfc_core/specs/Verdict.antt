-- The answer to an event: what it is refused for, else what it gives.
use Rattle.std.specs.Prelude.{ℕ, ◌+◌, ◌==◌, ◌^◌, nat_lt, Bool, true, false, cond, not, ◌||◌}
use Rattle.std.specs.Prelude.{is_none, is_ok, List, [], ◌∷◌, length}
use Rattle.std.specs.Prelude.{ℤ, pos, int_lt, Option, Some, None, Result, Ok, Err, slice_get}
use Rattle.sfc_base.specs.declared.location.Area.{Area}
use Rattle.sfc_base.specs.declared.location.Area.TheVariants as areas
use Rattle.sfc_base.specs.declared.location.Location.{Location}
use Rattle.sfc_plant.specs.declared.variable.Variable.{Variable}
use Rattle.sfc_base.specs.declared.ids.ProgId.{ProgId}
use Rattle.sfc_base.specs.declared.ids.TaskId.{TaskId}
use Rattle.sfc_base.specs.declared.ids.VarId.{VarId}
use Rattle.sfc_plant.specs.declared.task.Task.{Task}
use Rattle.sfc_plant.specs.Plants.{PlantData}
use Rattle.sfc_plant.specs.Image.{image_variables}
use Rattle.sfc_instances.specs.sfc_image.declared.image_error.ImageError.{ImageError}
use Rattle.sfc_instances.specs.sfc_image.declared.image_error.ImageError.TheVariants as image
use Rattle.sfc_instances.specs.sfc_image.Changes.{Change}
use Rattle.sfc_instances.specs.sfc_image.Answers.{value_fault, release_fault}
use Rattle.sfc_instances.specs.sfc_instance.declared.scan_end.ScanEnd.{ScanEnd}
use Rattle.sfc_instances.specs.sfc_instance.declared.scan_end.ScanEnd.TheVariants.{Ran, Faulted, Skipped}
use Rattle.sfc_tasks.specs.Multiples.{next_release}
use Rattle.sfc_tasks.specs.Calls.{Call, single_of}
use Rattle.sfc_tasks.specs.Releases.{interval_of, waits_since}
use Rattle.sfc_tasks.specs.Pick.{picked}
use Rattle.sfc_events.specs.declared.event.Event.{Event}
use Rattle.sfc_events.specs.declared.event.Event.TheVariants.{Scan, ForcedScan, Input, Force, Release, Reset}
use Rattle.sfc_events.specs.declared.event.Outcome.{Outcome}
use Rattle.sfc_events.specs.declared.event.Outcome.TheVariants.{Done, Scanned}
use Rattle.sfc_events.specs.declared.instance_set.InstanceSet.{InstanceSet}
use Rattle.sfc_events.specs.InstanceSets.{set_of}
use Rattle.sfc_events.specs.declared.refusal.Refusal.{Refusal}
use Rattle.sfc_events.specs.declared.refusal.Refusal.TheVariants.{InstantRange, ClockBack, UnknownTask, UnknownProgram}
use Rattle.sfc_events.specs.declared.refusal.Refusal.TheVariants.{UnknownVar, ValueType, NotInput, NotForced, NotDue, Yield}
use Rattle.sfc_events.specs.Events.{scanned_task}
use Rattle.sfc_events.specs.History.{TimedEvent, History, last_instant}
use Rattle.sfc_instances.specs.Ends.{bits_of}
use Rattle.sfc_core.specs.PlantState.{state_of}
use Rattle.sfc_core.specs.Due.{singles_of, calls_at}
use Rattle.sfc_core.specs.Answers.{overruns_of}

-- ---- refusals

-- the refusal, where its condition stands
abbrev pub refused_if : Bool → Refusal → Option Refusal
refused_if b refusal = cond b (Some refusal) None

-- the first of two
abbrev pub or_then : Option Refusal → Option Refusal → Option Refusal
or_then (Some refusal) other = Some refusal
or_then None other = other

-- an instant is from 0 to 2^62 microseconds (our choice)
abbrev pub is_out_of_range : ℤ → Bool
is_out_of_range t = int_lt t (pos 0) || int_lt (pos (2 ^ 62)) t

-- by the instant of an event, after one at `last`
abbrev pub instant_refusal : ℤ → ℤ → Option Refusal
instant_refusal last t = or_then (refused_if (is_out_of_range t) InstantRange) (refused_if (int_lt t last) ClockBack)

-- there is no such task
abbrev pub task_refusal : PlantData → TaskId → Option Refusal
task_refusal plant task = refused_if (not (nat_lt task.0 (length plant.tasks))) UnknownTask

-- there is no such program instance
abbrev pub program_refusal : PlantData → ProgId → Option Refusal
program_refusal plant p = refused_if (not (nat_lt p.0 (length plant.instances))) UnknownProgram

-- what is told of a fault of the variables
abbrev pub of_image : Option ImageError → Option Refusal
of_image None = None
of_image (Some image.UnknownVar) = Some UnknownVar
of_image (Some image.ValueType) = Some ValueType
of_image (Some image.NotForced) = Some NotForced

-- the part of the address space that is written %I
abbrev pub is_input_area : Area → Bool
is_input_area areas.Input = true
is_input_area areas.Output = false
is_input_area areas.Memory = false

-- a location in it
abbrev pub is_located_input : Option Location → Bool
is_located_input None = false
is_located_input (Some location) = is_input_area location.area

-- a variable located there (2.4.1.1)
abbrev pub is_input : Option Variable → Bool
is_input None = false
is_input (Some variable) = is_located_input variable.location

-- it is no input
abbrev pub input_refusal : PlantData → VarId → Option Refusal
input_refusal plant id = refused_if (not (is_input (slice_get (image_variables plant) id.0))) NotInput

-- by what the event names, where this was done with the variables
abbrev pub event_refusal : PlantData → List Change → Event → Option Refusal
event_refusal plant changes (Scan task) = task_refusal plant task
event_refusal plant changes (ForcedScan task) = task_refusal plant task
event_refusal plant changes (Input id v) = or_then (of_image (value_fault plant id v)) (input_refusal plant id)
event_refusal plant changes (Force id v) = of_image (value_fault plant id v)
event_refusal plant changes (Release id) = of_image (release_fault plant changes id)
event_refusal plant changes (Reset p) = program_refusal plant p

-- no release of the task waits; the next one by its interval is told
abbrev pub due_refusal : List Task → List Bool → List Call → TaskId → ℤ → Option Refusal
due_refusal tasks singles calls task t =
    refused_if (is_none (waits_since tasks calls task.0))
    (NotDue (next_release (interval_of tasks task.0) (single_of singles task.0) t))

-- this one goes first, if one does
abbrev pub yield_to : TaskId → Option TaskId → Option Refusal
yield_to task None = None
yield_to task (Some first) = refused_if (not (first.0 == task.0)) (Yield first)

-- another task goes first
abbrev pub yield_refusal : List Task → List Call → TaskId → Option Refusal
yield_refusal tasks calls task = yield_to task (picked tasks calls)

-- A scan at t is not the task's turn, where the tasks were told so, and each SINGLE reads so. A forced scan, and what is no
-- scan, waits for no turn.
unfoldable pub turn_refusal : List Task → List Bool → List Call → Event → ℤ → Option Refusal
turn_refusal tasks singles calls (Scan task) t =
    or_then (due_refusal tasks singles calls task t) (yield_refusal tasks calls task)
turn_refusal tasks singles calls _ t = None

-- The first refusal that applies, in one order (our choice): of the instant, of what the event names, and of its turn.
unfoldable pub first_refusal : PlantData → History → Event → ℤ → Option Refusal
first_refusal plant h event t =
    or_then (instant_refusal (last_instant h) t)
    (or_then (event_refusal plant (state_of plant h).changes event)
    (turn_refusal plant.tasks (singles_of plant h) (calls_at plant h t) event t))

-- ---- answers

-- the instances of which a scan of the task after a history ends so
abbrev pub ended : ScanEnd → PlantData → History → TaskId → ℤ → InstanceSet
ended how plant h task t = set_of (bits_of how plant task t 0 plant.instances (state_of plant h))

-- to an event at t that is a scan of this task
unfoldable pub scan_answer : PlantData → History → Event → TaskId → ℤ → Outcome
scan_answer plant h event task t =
    Scanned (ended Ran plant h task t) (ended Faulted plant h task t) (ended Skipped plant h task t)
    (overruns_of plant ((event, t) ∷ h) task)

-- to an event at t that is a scan of this task, or of none
abbrev pub answer_of : PlantData → History → Event → ℤ → Option TaskId → Outcome
answer_of plant h event t None = Done
answer_of plant h event t (Some task) = scan_answer plant h event task t

-- what an accepted event answers
abbrev pub answer : PlantData → History → Event → ℤ → Outcome
answer plant h event t = answer_of plant h event t (scanned_task event)

-- the refusal, if there is one, else the answer
abbrev pub verdict_by : Option Refusal → Outcome → Result Outcome Refusal
verdict_by (Some refusal) outcome = Err refusal
verdict_by None outcome = Ok outcome

-- on an event at t after a history
abbrev pub verdict : PlantData → History → Event → ℤ → Result Outcome Refusal
verdict plant h event t = verdict_by (first_refusal plant h event t) (answer plant h event t)

-- ---- many events

-- the history after an event that was answered so
abbrev pub history_by : Result Outcome Refusal → History → TimedEvent → History
history_by (Ok outcome) h timed_event = timed_event ∷ h
history_by (Err refusal) h timed_event = h

-- the history after an event, accepted or not
abbrev pub after : PlantData → History → TimedEvent → History
after plant h timed_event = history_by (verdict plant h timed_event.0 timed_event.1) h timed_event

-- the history after a list of events, the first of them first
abbrev pub after_all : PlantData → History → List TimedEvent → History
after_all plant h [] = h
after_all plant h (timed_event ∷ timed_events) = after_all plant (after plant h timed_event) timed_events

-- how many of them are accepted
abbrev pub accepted : PlantData → History → List TimedEvent → ℕ
accepted plant h [] = 0
accepted plant h (timed_event ∷ timed_events) =
    cond (is_ok (verdict plant h timed_event.0 timed_event.1)) 1 0 + accepted plant (after plant h timed_event) timed_events
