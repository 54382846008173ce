-- What is read without a command: what the rules say of the commands that were accepted.
use Rattle.std.specs.Prelude.{◌≡◌, ℕ, nat_lt, cond, is_some, List, length, map, take, drop, MatchBool}
use Rattle.std.specs.Prelude.{◌+◌, ℤ, pos, negsuc, Option, Some, None}
use Rattle.std.specs.List.{range_with_len}
use Rattle.sfc_base.specs.declared.ids.ProgId.{ProgId}
use Rattle.sfc_base.specs.declared.ids.TaskId.{TaskId}
use Rattle.sfc_base.specs.declared.ids.VarId.{VarId}
use Rattle.sfc_plant.specs.declared.association.Target.TheVariants.{Declared}
use Rattle.sfc_plant.specs.Plants.{PlantData}
use Rattle.sfc_plant.specs.Finding.{chart_of}
use Rattle.sfc_replay.specs.sfc_tables.Actions.{number_of}
use Rattle.sfc_replay.specs.sfc_tables.Tables.{Tabled, tables_of}
use Rattle.sfc_replay.specs.sfc_image.Values.{variable_count}
use Rattle.sfc_replay.specs.sfc_instance.declared.fault_place.FaultPlace.{FaultPlace}
use Rattle.sfc_replay.specs.sfc_instance.declared.fault_place.FaultPlace.TheVariants as places
use Rattle.sfc_replay.specs.sfc_instance.declared.scan_fault.ScanFault.{ScanFault}
use Rattle.sfc_replay.specs.sfc_instance.FaultNames.{fault_number}
use Rattle.sfc_replay.specs.sfc_instance.Life.{InstanceState}
use Rattle.sfc_replay.specs.sfc_instance.Answers.{scan_count, is_step_active, step_elapsed, is_step_activated, is_transition_cleared}
use Rattle.sfc_replay.specs.sfc_instance.Answers.{action_q, is_action_executed}
use Rattle.sfc_events.specs.declared.command.Point.{Point}
use Rattle.sfc_events.specs.declared.command.Point.TheVariants as points
use Rattle.sfc_events.specs.History.{History}
use Rattle.sfc_replay.specs.sfc_tasks.Calls.{single_of}
use Rattle.sfc_replay.specs.sfc_tasks.Multiples.{next_release}
use Rattle.sfc_replay.specs.sfc_tasks.Releases.{interval_of}
use Rattle.sfc_replay.specs.sfc_core.Answers.{value_of, forced_of, instance_state_of, overruns_of}
use Rattle.sfc_replay.specs.sfc_core.Due.{singles_of}
use Rattle.sfc_replay.specs.sfc_debug.Histories.{CommandHistory}
use Rattle.sfc_replay.specs.sfc_debug.States.{state_of}
use Rattle.sfc_replay.specs.sfc_debug.Steered.{Steered}
use Rattle.sfc_c.specs.declared.reading.Status.{Status}
use Rattle.sfc_c.specs.declared.reading.ProgramState.{ProgramState}
use Rattle.sfc_c.specs.declared.image.VariableState.{VariableState}
use Rattle.sfc_c.specs.declared.tasks.TaskState.{TaskState}
use Rattle.sfc_c.specs.declared.showing.PointState.{PointState}
use Rattle.sfc_c.specs.Codes.{told, flag, mode_number, instant_or_none, too_short}
use Rattle.sfc_c.specs.Found.{number_of_place}
use Rattle.sfc_c.specs.Handles.{events_of}

-- what is there is given, with 0; where nothing is there, -3 is answered and nothing given
abbrev pub Gives : {X : Type 0} → Option X → X → X → ℤ → Type 0
Gives None old new result = (result ≡ negsuc 2) × (new ≡ old)
Gives (Some x) old new result = (result ≡ pos 0) × (new ≡ x)

-- ---- variables

-- what the variable reads
abbrev pub told_value : Steered → CommandHistory → VarId → Option ℤ
told_value s h id = cond (nat_lt id.0 (variable_count s.plant)) (Some (told (value_of s.plant (events_of s h) id))) None

-- what it reads, and whether it is forced
abbrev pub variable_state : PlantData → History → ℕ → VariableState
variable_state plant h k =
    record { value = told (value_of plant h (record { 0 = k })); forced = flag (is_some (forced_of plant h (record { 0 = k }))) }

-- the first n places have the states of the variables, and the others what they had
pub record HasStates (plant : PlantData) (h : History) (n : ℕ) (old new : List VariableState) : Type 0 where
  pub states : take n new ≡ map (variable_state plant h) (range_with_len 0 n)
  pub others : drop n new ≡ drop n old

-- all of them, where there is room; else nothing
abbrev pub GivesImage : Steered → CommandHistory → List VariableState → List VariableState → ℤ → Type 0
GivesImage s h old new result = MatchBool (nat_lt (length old) (variable_count s.plant))
    ((result ≡ too_short) × (new ≡ old))
    ((result ≡ pos 0) × HasStates s.plant (events_of s h) (variable_count s.plant) old new)

-- whether it is forced: 1 or 0, and -3 where there is no such variable
abbrev pub told_forced : Steered → CommandHistory → VarId → ℤ
told_forced s h id = cond (nat_lt id.0 (variable_count s.plant)) (flag (is_some (forced_of s.plant (events_of s h) id))) (negsuc 2)

-- ---- the resource

-- its run instant, how many commands it accepted, and its mode
abbrev pub status_of : Steered → CommandHistory → Status
status_of s h = record {
  instant = (state_of s.plant s.table h).clock.instant;
  accepted = length h;
  mode = mode_number (state_of s.plant s.table h).clock.mode;
}

-- ---- tasks

-- the next release by the interval behind t, or -1 (2.7.2)
abbrev pub next_of : PlantData → History → TaskId → ℤ → ℤ
next_of plant h task t =
    instant_or_none (next_release (interval_of plant.tasks task.0) (single_of (singles_of plant h) task.0) t)

-- that behind the run instant, and the overruns since the opening
abbrev pub task_in : Steered → CommandHistory → TaskId → TaskState
task_in s h task = record {
  next = next_of s.plant (events_of s h) task (state_of s.plant s.table h).clock.instant;
  overruns = overruns_of s.plant (events_of s h) task;
}

abbrev pub task_state : Steered → CommandHistory → TaskId → Option TaskState
task_state s h task = cond (nat_lt task.0 (length s.plant.tasks)) (Some (task_in s h task)) None

-- ---- program instances

-- in the order in which the kinds of faults are told; 0 where there is none
abbrev pub scan_fault_number : Option ScanFault → ℤ
scan_fault_number None = pos 0
scan_fault_number (Some fault) = pos (fault_number fault)

-- In what a fault is: 1 in the condition of a transition (2.6.3), 2 in the control block of an action (2.6.4.5), 3 in a statement of
-- the body of a declared action (2.6.4.1); 0 where none stands.
abbrev pub place_kind : Option FaultPlace → ℤ
place_kind None = pos 0
place_kind (Some (places.Transition tr)) = pos 1
place_kind (Some (places.Action a)) = pos 2
place_kind (Some (places.Statement id statement)) = pos 3

-- the number of that transition, or of that action among all actions of the chart, as sfc_point has it; -1 where no fault stands
abbrev pub place_number : Tabled → Option FaultPlace → ℤ
place_number tables None = negsuc 0
place_number tables (Some (places.Transition tr)) = pos tr.0
place_number tables (Some (places.Action a)) = number_of_place (Some a.0)
place_number tables (Some (places.Statement id statement)) = number_of_place (Some (number_of tables.actions (Declared id)).0)

-- counted from 1; at most 2^31 - 1
abbrev pub counted : ℕ → ℤ
counted k = cond (nat_lt k 2147483647) (pos (k + 1)) (pos 2147483647)

-- the statement of a body; 0 where the fault is in none
abbrev pub place_statement : Option FaultPlace → ℤ
place_statement None = pos 0
place_statement (Some (places.Transition tr)) = pos 0
place_statement (Some (places.Action a)) = pos 0
place_statement (Some (places.Statement id statement)) = counted statement

abbrev pub state_in : Tabled → InstanceState → ProgramState
state_in tables instance_state = record {
  scans = scan_count instance_state;
  fault = scan_fault_number instance_state.fault;
  place = place_kind instance_state.place;
  number = place_number tables instance_state.place;
  statement = place_statement instance_state.place;
}

-- how many scans its life has had, its fault, and where that is
abbrev pub program_state : Steered → CommandHistory → ProgId → Option ProgramState
program_state s h p = cond (nat_lt p.0 (length s.plant.instances))
    (Some (state_in (tables_of (chart_of s.plant p)) (instance_state_of s.plant (events_of s h) p))) None

-- ---- points

abbrev pub shown_step : Tabled → InstanceState → ℕ → PointState
shown_step tables instance_state s = record {
  elapsed = step_elapsed tables instance_state s;
  active = flag (is_step_active tables instance_state s);
  happened = flag (is_step_activated tables instance_state s);
}

abbrev pub shown_transition : Tabled → InstanceState → ℕ → PointState
shown_transition tables instance_state tr = record {
  elapsed = pos 0;
  active = pos 0;
  happened = flag (is_transition_cleared tables instance_state tr);
}

abbrev pub shown_action : Tabled → InstanceState → ℕ → PointState
shown_action tables instance_state a = record {
  elapsed = pos 0;
  active = flag (action_q tables instance_state a);
  happened = flag (is_action_executed tables instance_state a);
}

-- a step, its time and whether it was activated (2.6.2); whether a transition was cleared (2.6.5); Q and A of an action (2.6.4.5)
abbrev pub shown : Tabled → InstanceState → Point → Option PointState
shown tables instance_state (points.Step s) =
    cond (nat_lt s.0 (length tables.initial)) (Some (shown_step tables instance_state s.0)) None
shown tables instance_state (points.Transition tr) =
    cond (nat_lt tr.0 (length tables.sides)) (Some (shown_transition tables instance_state tr.0)) None
shown tables instance_state (points.Action a) =
    cond (nat_lt a.0 (length tables.actions)) (Some (shown_action tables instance_state a.0)) None

-- in the chart of a program instance
abbrev pub point_state : Steered → CommandHistory → ProgId → Option Point → Option PointState
point_state s h p None = None
point_state s h p (Some point) = cond (nat_lt p.0 (length s.plant.instances))
    (shown (tables_of (chart_of s.plant p)) (instance_state_of s.plant (events_of s h) p) point) None
