-- Where a bench stands, and what it answers.
use Rattle.std.specs.Prelude.{◌≡◌, ◌<◌, [], ◌∷◌, ℕ, ℤ, length, slice_get, true, Option, Some, None, IfSome}
use Rattle.sfc_base.specs.declared.ids.ProgId.{ProgId}
use Rattle.sfc_base.specs.declared.ids.TaskId.{TaskId}
use Rattle.sfc_events.specs.declared.command.Command.TheVariants.{Scan}
use Rattle.sfc_replay.specs.sfc_debug.Agreement.{Agrees, plant_of, table_of}
use Rattle.sfc_replay.specs.sfc_debug.Histories.{TimedCommand}
use Rattle.sfc_replay.specs.sfc_debug.declared.debugger.Debugger.{Debugger}
use Rattle.sfc_replay.specs.sfc_debug.Openings.{IsOpeningFor, past_of}
use Rattle.sfc_replay.specs.sfc_debug.Past.{debug_past}
use Rattle.sfc_replay.specs.sfc_debug.Steered.{Steered, steered_by}
use Rattle.sfc_replay.specs.sfc_instance.Views.{instance_in, plant_in}
use Rattle.sfc_replay.specs.sfc_instance.declared.program_view.ProgramView.{ProgramView}
use Rattle.sfc_replay.specs.sfc_output.Output.{debugger_of}
use Rattle.sfc_session.specs.Scanning.{next_among, tasks_of, turn_among}
use Rattle.sfc_session.specs.Sessions.{last_instant}
use Rattle.sfc_judge.specs.declared.bench.Bench.{Bench}
use Rattle.sfc_judge.specs.declared.given.Given.{Given}
use Rattle.sfc_judge.specs.declared.turn.Turn.{Turn}
use Rattle.sfc_judge.specs.declared.turn.Turn.TheVariants.{Taken, NoTurn}
use Rattle.sfc_judge.specs.Holding.{task_of, told_overruns}
use Rattle.sfc_judge.specs.Moments.{Moment, Step, behind_command, behind_step, is_there}

-- the debugger to which its commands are given
unfoldable pub debugger_in : Bench → Debugger
debugger_in bench = bench.debugger

-- what it steers
unfoldable pub steered_in : Bench → Steered
steered_in bench = steered_by bench.debugger

-- Its opening is that of no command, and it has a number for each task.
pub record IsPrepared (bench : Bench) : Type 0 where
  pub sizes : IsOpeningFor (plant_of bench.debugger) bench.opening
  pub empty : past_of (plant_of bench.debugger) bench.opening ≡ debug_past (plant_of bench.debugger) (table_of bench.debugger) []
  pub told : length bench.told.items ≡ length (plant_of bench.debugger).tasks

unfoldable pub IsReady : Bench → Type 0
IsReady bench = IsPrepared bench

-- It stands as a case does at this moment.
pub record IsAt (bench : Bench) (m : Moment) : Type 0 where
  pub agrees : Agrees bench.debugger m.history
  pub clock : bench.clock ≡ m.clock
  pub last : bench.last ≡ last_instant m.history
  pub count : length bench.told.items ≡ length (plant_of bench.debugger).tasks
  pub told : (task : TaskId) → task.0 < length (plant_of bench.debugger).tasks →
      slice_get bench.told.items task.0 ≡ Some (told_overruns (steered_by bench.debugger) m.history task)
  pub stimuli : bench.stimuli.items ≡ m.stimuli

unfoldable pub Stands : Bench → Moment → Type 0
Stands bench m = IsAt bench m

-- Its debugger has accepted one command more than it knows.
pub record IsBehind (bench : Bench) (m : Moment) (timed : TimedCommand) : Type 0 where
  pub agrees : Agrees bench.debugger (timed ∷ m.history)
  pub clock : bench.clock ≡ m.clock
  pub count : length bench.told.items ≡ length (plant_of bench.debugger).tasks
  pub told : (task : TaskId) → task.0 < length (plant_of bench.debugger).tasks →
      slice_get bench.told.items task.0 ≡ Some (told_overruns (steered_by bench.debugger) m.history task)
  pub stimuli : bench.stimuli.items ≡ m.stimuli

unfoldable pub Accepted : Bench → Moment → TimedCommand → Type 0
Accepted bench m timed = IsBehind bench m timed

-- the window is on this program instance, which is there
pub record IsWindow (steered : Steered) (p : ProgId) (view : ProgramView) : Type 0 where
  pub there : is_there steered p ≡ true
  pub plant : plant_in view ≡ steered.plant
  pub instance : instance_in view ≡ p

-- ---- commands that are given

-- This command was given at this moment. The overruns are known that the latest scan of its task told.
pub record IsGiven (steered : Steered) (m : Moment) (timed : TimedCommand) (given : Given) : Type 0 where
  pub command : given.command ≡ timed.0
  pub answer : given.answer ≡ (debugger_of steered).verdict m.history timed
  pub told : IfSome (task_of timed.0) (λ task. given.overruns ≡ told_overruns steered m.history task)

abbrev pub scan_of : ℕ → ℤ → TimedCommand
scan_of task raw = (Scan (record { 0 = task }), raw)

-- the same with the bench behind it
abbrev pub GivesAt : Steered → Moment → TimedCommand → Given → Bench → Type 0
GivesAt steered m timed given new = IsGiven steered m timed given × Stands new (behind_command steered m timed)

-- The scan of the task whose turn it is was given at a raw instant; or it is no task's turn, and the earliest next release is found.
abbrev pub TakesTurn : Steered → Moment → ℤ → Turn → Bench → Type 0
TakesTurn steered m raw (Taken given) new =
    (task : ℕ) × (turn_among steered m.history raw (tasks_of steered) ≡ Some task) × GivesAt steered m (scan_of task raw) given new
TakesTurn steered m raw (NoTurn next) new =
    (turn_among steered m.history raw (tasks_of steered) ≡ None)
    × (next_among steered m.history raw None (tasks_of steered) ≡ next) × Stands new m

-- the scan was given, if there is one
abbrev pub GivesScan : Steered → Moment → Option TimedCommand → Option Given → Bench → Type 0
GivesScan steered m None None new = Stands new m
GivesScan steered m (Some timed) (Some given) new = GivesAt steered m timed given new
GivesScan steered m _ _ new = ⊥

-- the command was given that came next, and the stimuli are those behind it
abbrev pub GivesStep : Steered → Moment → Option Step → Option Given → Bench → Type 0
GivesStep steered m None None new = Stands new m
GivesStep steered m (Some step) (Some given) new = IsGiven steered m step.timed given × Stands new (behind_step steered m step)
GivesStep steered m _ _ new = ⊥
