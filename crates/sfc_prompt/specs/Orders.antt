-- What a line tells the session to do, and what becomes of it.
use Rattle.std.specs.Prelude.{◌≡◌, ℕ, Bool, true, false, if◌then◌else◌, List, [], ◌∷◌, ◌++◌, codes, ℤ, pos, int_lt, Err, Option, Some, None, option_and_then, slice_get, unwrap_or}
use Rattle.sfc_base.specs.Case.{same_word}
use Rattle.sfc_base.specs.declared.ids.TaskId.{TaskId}
use Rattle.sfc_plant.specs.Finding.{task_named}
use Rattle.sfc_plant.specs.Plants.{PlantData}
use Rattle.sfc_plant.specs.declared.task.Task.{Task}
use Rattle.sfc_events.specs.declared.command.Command.{Command}
use Rattle.sfc_events.specs.declared.command.Command.TheVariants.{BreakIf, Scan}
use Rattle.sfc_events.specs.declared.refusal.Refusal.TheVariants.{Stopped}
use Rattle.sfc_asking.specs.sfc_debug.declared.break_condition.BreakCondition.{BreakCondition}
use Rattle.sfc_asking.specs.sfc_debug.Histories.{CommandHistory, TimedCommand}
use Rattle.sfc_asking.specs.sfc_debug.Steered.{Steered}
use Rattle.sfc_asking.specs.sfc_script.Commands.{Conditional, command_of, conditional_of}
use Rattle.sfc_asking.specs.sfc_script.Lines.{first_word, only_word}
use Rattle.sfc_asking.specs.sfc_script.Scripts.{ConditionReads}
use Rattle.sfc_asking.specs.sfc_output.Output.{Verdict}
use Rattle.sfc_session.specs.declared.session.Session.{Session}
use Rattle.sfc_session.specs.declared.step.Step.{Step}
use Rattle.sfc_session.specs.declared.step.Step.TheVariants as steps
use Rattle.sfc_prompt.specs.Lines.{Said, Nothing, Remark, Says, Asks}
use Rattle.sfc_session.specs.Scanning.{scan_after, step_after, step_of}
use Rattle.sfc_session.specs.Sessions.{IsGiven, IsWaiting, Stays, last_instant, steered_in, words_of}
use Rattle.sfc_prompt.specs.Words.{is_word}

-- ---- orders

-- What a line tells the session to do.
pub data Order : Type 0 where
  -- to give this command, which these words say
  Gives : TimedCommand → List ℕ → Order
  -- to set a breakpoint with a condition, at this raw instant, which these words say
  Waits : Conditional → ℤ → List ℕ → Order
  -- nothing
  Shows : Order

-- the command in the words of a replay
abbrev pub takes : Steered → TimedCommand → Order
takes steered timed = Gives timed (words_of steered timed.0)

-- the task, where the command is a scan without an instant
abbrev pub free_scan : Option ℤ → Command → Option TaskId
free_scan None (Scan task) = Some task
free_scan _ command = None

-- A scan without an instant goes on to the task's release. Any other command is given at its instant, or at that of the last one.
abbrev pub command_order : Steered → CommandHistory → Option ℤ → List ℕ → Command → Option TaskId → Order
command_order steered h instant text command (Some task) = takes steered (scan_after steered h task)
command_order steered h instant text command None = Gives (command, unwrap_or instant (last_instant h)) text

-- one single scan of a task, after its INTERVAL, where it has one
abbrev pub single_in : Option Task → TaskId → Option Step
single_in None id = None
single_in (Some task) id = if int_lt (pos 0) task.interval then Some (steps.Single id task.interval) else None

abbrev pub single_of : PlantData → TaskId → Option Step
single_of plant id = single_in (slice_get plant.tasks id.0) id

-- that of the task whose name is the only word of a text
abbrev pub single_named : PlantData → List ℕ → Option Step
single_named plant text = option_and_then (λ name. option_and_then (single_of plant) (task_named plant name)) (only_word text)

-- SINGLE and the name of a task
abbrev pub single_behind : PlantData → List ℕ × List ℕ → Option Step
single_behind plant w = if same_word w.0 (codes "SINGLE") then single_named plant w.1 else None

abbrev pub single_alone : PlantData → List ℕ → Option Step
single_alone plant text = option_and_then (single_behind plant) (first_word text)

-- the step of a text that is no command: SCAN alone, or SINGLE and a task, without an instant
abbrev pub other_step : PlantData → Option ℤ → List ℕ → Option Step
other_step plant (Some instant) text = None
other_step plant None text = if is_word text (codes "SCAN") then Some steps.First else single_alone plant text

abbrev pub step_order : Steered → CommandHistory → Option Step → Order
step_order steered h None = Shows
step_order steered h (Some step) = takes steered (step_after steered h step)

-- a command without a condition, or else a breakpoint with one, or else such a step
abbrev pub order_by : Steered → CommandHistory → Option ℤ → List ℕ → Option Command → Option Conditional → Order
order_by steered h instant text (Some command) conditional = command_order steered h instant text command (free_scan instant command)
order_by steered h instant text None (Some conditional) = Waits conditional (unwrap_or instant (last_instant h)) text
order_by steered h instant text None None = step_order steered h (other_step steered.plant instant text)

-- of a text that should be a command of a script, with an instant or without one
abbrev pub text_order : Steered → CommandHistory → Option ℤ → List ℕ → Order
text_order steered h instant text = order_by steered h instant text (command_of steered.plant text) (conditional_of steered.plant text)

-- the step that such a text is, if it is one
abbrev pub step_by : PlantData → Option ℤ → List ℕ → Option Command → Option Conditional → Option Step
step_by plant instant text (Some command) conditional = step_of command
step_by plant instant text None (Some conditional) = None
step_by plant instant text None None = other_step plant instant text

abbrev pub text_step : PlantData → Option ℤ → List ℕ → Option Step
text_step plant instant text = step_by plant instant text (command_of plant text) (conditional_of plant text)

-- Words of the prompt's own tell the session nothing.
abbrev pub order_of : Steered → CommandHistory → Said → Order
order_of steered h (Says instant text) = text_order steered h instant text
order_of steered h (Asks word text) = Shows
order_of steered h Remark = Shows
order_of steered h Nothing = Shows

-- ---- what becomes of an order

-- Nothing more was accepted, and a text was put.
abbrev pub IsShown : Session → Session → List ℕ → List ℕ → CommandHistory → List ℕ → Type 0
IsShown old new before behind h lines = (text : List ℕ) × (behind ≡ before ++ text) × Stays old new h lines

-- A breakpoint whose text was read so: it waits for the condition; or its program instance isn't there, and it is given as one that waits
-- for the first condition; or the text is no condition, which is told.
abbrev pub BreaksBy : Session → Session → List ℕ → List ℕ → CommandHistory → List ℕ → Conditional → ℤ → List ℕ
    → Option (List BreakCondition) → Type 0
BreaksBy old new before behind h lines conditional raw words (Some (condition ∷ conditions)) =
    (told : Verdict) × IsWaiting old new before behind told h lines (conditional.place.point, raw) condition words
BreaksBy old new before behind h lines conditional raw words (Some []) =
    (told : Verdict) × IsGiven old new before behind told h lines
    (BreakIf conditional.place.program conditional.place.point (record { 0 = 0 }), raw) words
BreaksBy old new before behind h lines conditional raw words None = IsShown old new before behind h lines

-- it was refused since the resource is halted
abbrev pub is_stopped : Verdict → Bool
is_stopped (Err Stopped) = true
is_stopped _ = false

-- what serves then
abbrev pub halted_note : List ℕ
halted_note = codes "; the resource is halted: GO lets it run on, and SINGLE task scans a task once\n"

-- Then that is told, and else nothing.
abbrev pub Hints : Bool → List ℕ → List ℕ → Type 0
Hints true before behind = behind ≡ before ++ halted_note
Hints false before behind = behind ≡ before

-- The command was given, and maybe told what serves in its place.
abbrev pub GivesAnswer : Session → Session → List ℕ → List ℕ → CommandHistory → List ℕ → TimedCommand → List ℕ → Type 0
GivesAnswer old new before behind h lines timed words =
    (told : Verdict) × (middle : List ℕ) × IsGiven old new before middle told h lines timed words × Hints (is_stopped told) middle behind

-- The order was obeyed.
abbrev pub Obeys : Session → Session → List ℕ → List ℕ → CommandHistory → List ℕ → Order → Type 0
Obeys old new before behind h lines (Gives timed words) = GivesAnswer old new before behind h lines timed words
Obeys old new before behind h lines (Waits conditional raw words) =
    (read : Option (List BreakCondition))
    × ConditionReads (steered_in old).plant 0 conditional.place.program conditional.text read
    × BreaksBy old new before behind h lines conditional raw words read
Obeys old new before behind h lines Shows = IsShown old new before behind h lines
