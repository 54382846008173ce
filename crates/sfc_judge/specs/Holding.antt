-- What has to hold in a case, and which cases pass.
use Rattle.std.specs.Prelude.{ℕ, ◌==◌, Bool, true, false, not, ◌&&◌, ◌||◌, if◌then◌else◌, nat_lt, List}
use Rattle.std.specs.Prelude.{[], ◌∷◌, ◌++◌, length, ℤ, int_lt, Option, Some, None, Ok, Err}
use Rattle.std.specs.List.{list_all, list_any, range_with_len}
use Rattle.sfc_base.specs.declared.ids.ProgId.{ProgId}
use Rattle.sfc_base.specs.declared.ids.TaskId.{TaskId}
use Rattle.sfc_base.specs.declared.references.StepId.{StepId}
use Rattle.sfc_events.specs.InstanceSets.{has}
use Rattle.sfc_events.specs.declared.instance_set.InstanceSet.{InstanceSet}
use Rattle.sfc_events.specs.Refusals.{number_of}
use Rattle.sfc_events.specs.declared.command.Answer.TheVariants.{Scanned}
use Rattle.sfc_events.specs.declared.command.Command.{Command}
use Rattle.sfc_events.specs.declared.command.Command.TheVariants.{Scan, Single}
use Rattle.sfc_plant.specs.Finding.{chart_of}
use Rattle.sfc_plant.specs.Plants.{PlantData}
use Rattle.sfc_replay.specs.sfc_core.Answers.{overruns_of}
use Rattle.sfc_replay.specs.sfc_debug.Histories.{CommandHistory, TimedCommand}
use Rattle.sfc_replay.specs.sfc_debug.States.{erasure}
use Rattle.sfc_replay.specs.sfc_debug.Steered.{Steered}
use Rattle.sfc_replay.specs.sfc_instance.Answers.{is_step_active}
use Rattle.sfc_replay.specs.sfc_instance.FaultNames.{fault_number}
use Rattle.sfc_replay.specs.sfc_instance.Life.{InstanceState}
use Rattle.sfc_replay.specs.sfc_instance.declared.scan_fault.ScanFault.{ScanFault}
use Rattle.sfc_replay.specs.sfc_output.Output.{Verdict, debugger_of}
use Rattle.sfc_replay.specs.sfc_tables.Tables.{tables_of}
use Rattle.sfc_cases.specs.declared.deed.Deed.{Deed}
use Rattle.sfc_cases.specs.declared.deed.Deed.TheVariants.{Gives, Refuses, Runs, Expects, Active, Faulted, Overran, Watches}
use Rattle.sfc_cases.specs.declared.line.Line.{Line}
use Rattle.sfc_cases.specs.declared.watch.End.{End}
use Rattle.sfc_cases.specs.declared.watch.End.TheVariants.{CaseEnds, When, After}
use Rattle.sfc_cases.specs.declared.watch.Response.{Response}
use Rattle.sfc_cases.specs.declared.watch.Steady.{Steady}
use Rattle.sfc_cases.specs.declared.watch.Watch.{Watch}
use Rattle.sfc_cases.specs.declared.watch.Watch.TheVariants.{Stays, Responds}
use Rattle.sfc_cases.specs.declared.instant.Instant.TheVariants.{Later}
use Rattle.sfc_judge.specs.Courses.{behind, behind_line, behind_lines, given, here, steps_of}
use Rattle.sfc_cases.specs.Lines.{instant_after}
use Rattle.sfc_judge.specs.Moments.{Moment, Step, agree, behind_step, is_there, moments, opening, plant_at, reads}
use Rattle.sfc_judge.specs.Scans.{is_reached}

-- ---- what answers have to be

-- the line expects that this program instance has a fault
abbrev pub is_fault_of : ProgId → Deed → Bool
is_fault_of p (Faulted fault q) = q.0 == p.0
is_fault_of p _ = false

abbrev pub expects_fault : List Line → ProgId → Bool
expects_fault lines p = list_any (λ line. is_fault_of p line.deed) lines

-- so of each of these instances
abbrev pub are_expected : PlantData → List Line → InstanceSet → Bool
are_expected plant lines faulted =
    list_all (λ p. not (has faulted p) || expects_fault lines (record { 0 = p })) (range_with_len 0 (length plant.instances))

-- or that this task has overruns
abbrev pub is_overrun_of : TaskId → Deed → Bool
is_overrun_of task (Overran n other) = other.0 == task.0
is_overrun_of task _ = false

abbrev pub expects_overruns : List Line → TaskId → Bool
expects_overruns lines task = list_any (λ line. is_overrun_of task line.deed) lines

-- the task that a command scans
abbrev pub task_of : Command → Option TaskId
task_of (Scan task) = Some task
task_of (Single task d) = Some task
task_of _ = None

abbrev pub scans_task : TaskId → Option TaskId → Bool
scans_task task None = false
scans_task task (Some other) = other.0 == task.0

-- the overruns of a task after these commands; none of one that isn't there
abbrev pub overruns_at : Steered → CommandHistory → TaskId → ℕ
overruns_at steered h task =
    if nat_lt task.0 (length steered.plant.tasks) then overruns_of steered.plant (erasure steered.plant steered.table h) task else 0

-- how many overruns the latest scan of a task told, 0 before the first
abbrev pub told_overruns : Steered → CommandHistory → TaskId → ℕ
told_overruns steered [] task = 0
told_overruns steered (timed ∷ h) task =
    if scans_task task (task_of timed.0) then overruns_at steered (timed ∷ h) task else told_overruns steered h task

-- a scan of the task tells no more overruns than the one before it, or a line behind it expects that
abbrev pub is_on_time : Steered → List Line → CommandHistory → Option TaskId → ℕ → Bool
is_on_time steered lines h None overruns = true
is_on_time steered lines h (Some task) overruns = (overruns == told_overruns steered h task) || expects_overruns lines task

-- A command that was answered so is accepted; each fault of a scan is one that a line behind it expects, and so are overruns.
abbrev pub is_fine_by : Steered → List Line → CommandHistory → Command → Verdict → Bool
is_fine_by steered lines h command (Err refusal) = false
is_fine_by steered lines h command (Ok (Scanned ran faulted skipped overruns hit)) =
    are_expected steered.plant lines faulted && is_on_time steered lines h (task_of command) overruns
is_fine_by steered lines h command (Ok _) = true

abbrev pub is_fine : Steered → List Line → CommandHistory → TimedCommand → Bool
is_fine steered lines h timed = is_fine_by steered lines h timed.0 ((debugger_of steered).verdict h timed)

-- so of each of these commands in turn
abbrev pub are_fine : Steered → List Line → Moment → List Step → Bool
are_fine steered lines m [] = true
are_fine steered lines m (step ∷ later) =
    is_fine steered lines m.history step.timed && are_fine steered lines (behind_step steered m step) later

-- refused by the reason of this number
abbrev pub is_refused : ℕ → Verdict → Bool
is_refused n (Ok answer) = false
is_refused n (Err refusal) = number_of refusal == n

-- ---- EXPECT

abbrev pub instance_at : Steered → Moment → ProgId → InstanceState
instance_at steered m p = (plant_at steered m).instance_state p.0

-- a step is active just where it is one of these (2.6.2)
abbrev pub is_as_told : Steered → Moment → ProgId → List StepId → ℕ → Bool
is_as_told steered m p steps k =
    agree (is_step_active (tables_of (chart_of steered.plant p)) (instance_at steered m p) k) (list_any (λ step. step.0 == k) steps)

abbrev pub are_active : Steered → Moment → ProgId → List StepId → Bool
are_active steered m p steps = is_there steered p
    && list_all (is_as_told steered m p steps) (range_with_len 0 (length (tables_of (chart_of steered.plant p)).initial))

-- the fault with which a program instance stands
abbrev pub fault_at : Steered → Moment → ProgId → Option ScanFault
fault_at steered m p = if is_there steered p then (instance_at steered m p).fault else None

abbrev pub is_fault : ScanFault → Option ScanFault → Bool
is_fault fault None = false
is_fault fault (Some other) = fault_number other == fault_number fault

-- ---- ALWAYS and NEVER

-- what begins at the clock's instant `from` is over
abbrev pub is_over : Steered → ℤ → End → Moment → Bool
is_over steered from CaseEnds m = false
is_over steered from (When condition) m = reads steered m true condition
is_over steered from (After d) m = int_lt (instant_after from (Later d)) m.clock

-- It held at each of these moments up to the first at which it is over.
abbrev pub stays : Steered → ℤ → Steady → List Moment → Bool
stays steered from steady [] = true
stays steered from steady (m ∷ later) =
    is_over steered from steady.end m || (reads steered m steady.wanted steady.condition && stays steered from steady later)

-- ---- responses

-- the effect had to be TRUE before this instant
abbrev pub is_late : Option ℤ → ℤ → Bool
is_late None clock = false
is_late (Some due) clock = int_lt due clock

-- The cause becomes TRUE: it is, and wasn't at the moment before. The effect has to be TRUE by then; an earlier instant counts.
abbrev pub due_from : Steered → Response → Bool → Option ℤ → Moment → Option ℤ
due_from steered r was None m =
    if not was && reads steered m true r.cause then Some (instant_after m.clock (Later r.within)) else None
due_from steered r was (Some due) m = Some due

-- by which instant the effect has to be TRUE behind this moment, if by one
abbrev pub due_behind : Steered → Response → Bool → Option ℤ → Moment → Option ℤ
due_behind steered r was due m = if reads steered m true r.effect then None else due_from steered r was due m

-- At each of these moments the effect isn't late; where the cause was TRUE before them, and by when the effect has to be.
abbrev pub responds : Steered → Response → Bool → Option ℤ → List Moment → Bool
responds steered r was due [] = true
responds steered r was due (m ∷ later) =
    not (is_late due m.clock) && responds steered r (reads steered m true r.cause) (due_behind steered r was due m) later

-- ---- what is watched

-- from the clock's instant on it holds at these moments
abbrev pub held : Steered → ℤ → Watch → List Moment → Bool
held steered from (Stays steady) ms = stays steered from steady ms
held steered from (Responds response) ms = responds steered response false None ms

-- ---- cases

-- what a deed says of a moment itself
abbrev pub holds : Steered → Moment → Deed → Bool
holds steered m (Expects condition) = reads steered m true condition
holds steered m (Active p steps) = are_active steered m p steps
holds steered m (Faulted fault p) = is_fault fault (fault_at steered m p)
holds steered m (Overran n task) = overruns_at steered m.history task == n
holds steered m _ = true

-- At this moment the deed of a line is right, behind which these lines stand. What is watched is looked at here, behind each command, and
-- where the case ends.
abbrev pub is_right : Steered → Moment → Deed → List Line → Bool
is_right steered m (Gives command) lines = is_fine steered lines m.history (command, m.clock)
is_right steered m (Refuses n command) lines = is_refused n ((debugger_of steered).verdict m.history (command, m.clock))
is_right steered m (Runs until limit) lines =
    are_fine steered lines m (given steered m (Runs until limit))
    && is_reached steered until (given steered m (Runs until limit)) (behind steered m (Runs until limit))
is_right steered m (Watches watch) lines =
    held steered m.clock watch (m ∷ (moments steered m (steps_of steered m lines) ++ behind_lines steered m lines ∷ []))
is_right steered m deed lines = holds steered m deed

-- From this moment on each line is right where it stands.
abbrev pub passes_from : Steered → Moment → List Line → Bool
passes_from steered m [] = true
passes_from steered m (line ∷ lines) =
    is_right steered (here m line) line.deed lines && passes_from steered (behind_line steered m line) lines

-- A case with these lines passes.
abbrev pub passes : Steered → List Line → Bool
passes steered lines = passes_from steered opening lines
