-- Which scan it is that has no instant, or that names no task.
use Rattle.std.specs.Prelude.{ℕ, ◌==◌, Bool, true, false, not, ◌||◌, cond, List, length, ℤ, ◌+ℤ◌, ◌-ℤ◌, int_le, Ok, Err, Option, Some, None, unwrap_or}
use Rattle.std.specs.Int.{saturate_signed, w64}
use Rattle.std.specs.List.{find, fold, range_with_len}
use Rattle.sfc_base.specs.declared.ids.TaskId.{TaskId}
use Rattle.sfc_events.specs.declared.command.Answer.TheVariants.{Scanned}
use Rattle.sfc_events.specs.declared.command.Command.{Command}
use Rattle.sfc_events.specs.declared.command.Command.TheVariants as commands
use Rattle.sfc_events.specs.declared.command.Command.TheVariants.{Scan}
use Rattle.sfc_events.specs.declared.refusal.Refusal.TheVariants.{NotDue, Yield}
use Rattle.sfc_output.specs.sfc_debug.Histories.{CommandHistory, TimedCommand}
use Rattle.sfc_output.specs.sfc_debug.Steered.{Steered}
use Rattle.sfc_output.specs.Output.{Verdict, debugger_of}
use Rattle.sfc_session.specs.declared.step.Step.{Step}
use Rattle.sfc_session.specs.declared.step.Step.TheVariants as steps
use Rattle.sfc_session.specs.Sessions.{last_instant}

-- ---- of a task

-- The raw instant of a run instant, where the resource runs on from a raw and a run instant; as far as 64 bits go.
abbrev pub raw_of : ℤ → ℤ → ℤ → ℤ
raw_of raw run next = saturate_signed w64 (raw +ℤ saturate_signed w64 (next -ℤ run))

-- the next release of a task whose scan was refused since it isn't due, if there is one
abbrev pub release_in : Verdict → Option ℤ
release_in (Err (NotDue next)) = next
release_in _ = None

-- the scan is given at this raw instant, or goes on to the next release
abbrev pub goes_on : Option ℤ → ℤ → ℤ → ℤ
goes_on None raw run = raw
goes_on (Some next) raw run = raw_of raw run next

-- The scan of a task after these commands: at the instant of the last one, or where it isn't due then, at its next release.
abbrev pub scan_after : Steered → CommandHistory → TaskId → TimedCommand
scan_after steered h task =
    let raw = last_instant h in (
      Scan task,
      goes_on (release_in ((debugger_of steered).verdict h (Scan task, raw))) raw ((debugger_of steered).state h).clock.instant,
    )

-- ---- of the task that goes first

-- what a scan of the task with this number is answered at a raw instant
abbrev pub scan_verdict : Steered → CommandHistory → ℤ → ℕ → Verdict
scan_verdict steered h raw k = (debugger_of steered).verdict h (Scan (record { 0 = k }), raw)

-- it isn't the task's turn: it isn't due, or another goes first
abbrev pub is_out_of_turn : Verdict → Bool
is_out_of_turn (Err (NotDue next)) = true
is_out_of_turn (Err (Yield first)) = true
is_out_of_turn _ = false

-- the first of these tasks whose turn it is at a raw instant
unfoldable pub turn_among : Steered → CommandHistory → ℤ → List ℕ → Option ℕ
turn_among steered h raw tasks = find (λ k. not (is_out_of_turn (scan_verdict steered h raw k))) tasks

-- the earlier of two instants, if there are any
abbrev pub earlier : Option ℤ → Option ℤ → Option ℤ
earlier None other = other
earlier (Some next) None = Some next
earlier (Some next) (Some other) = Some (cond (int_le next other) next other)

-- the earliest of this instant and of the next releases of these tasks, which their refusals at a raw instant tell
unfoldable pub next_among : Steered → CommandHistory → ℤ → Option ℤ → List ℕ → Option ℤ
next_among steered h raw first tasks = fold (λ next k. earlier next (release_in (scan_verdict steered h raw k))) first tasks

abbrev pub tasks_of : Steered → List ℕ
tasks_of steered = range_with_len 0 (length steered.plant.tasks)

-- the scan of the task whose turn it is at a raw instant; where it is no task's, that of the first one
abbrev pub turn_scan : Option ℕ → ℤ → TimedCommand
turn_scan turn raw = (Scan (record { 0 = unwrap_or turn 0 }), raw)

abbrev pub scan_at : Steered → CommandHistory → ℤ → TimedCommand
scan_at steered h raw = turn_scan (turn_among steered h raw (tasks_of steered)) raw

-- it is some task's turn at this raw instant, or the scan goes on to the next release
abbrev pub turn_instant : Option ℕ → Option ℤ → ℤ → ℤ → ℤ
turn_instant (Some task) next raw run = raw
turn_instant None next raw run = goes_on next raw run

-- SCAN alone after these commands: the scan of the task whose turn it is at the instant of the last one, or where it is no task's turn
-- then, at the earliest next release of all tasks.
abbrev pub first_scan_after : Steered → CommandHistory → TimedCommand
first_scan_after steered h =
    let raw = last_instant h in
    let turn = turn_among steered h raw (tasks_of steered) in
    let next = next_among steered h raw None (tasks_of steered) in
    scan_at steered h (turn_instant turn next raw ((debugger_of steered).state h).clock.instant)

-- ---- steps

-- the step that a command is, if it is one
abbrev pub step_of : Command → Option Step
step_of (Scan task) = Some (steps.Task task)
step_of (commands.Single task micros) = Some (steps.Single task micros)
step_of _ = None

-- The command that a step is after these: a single scan is at the instant of the last one.
abbrev pub step_after : Steered → CommandHistory → Step → TimedCommand
step_after steered h steps.First = first_scan_after steered h
step_after steered h (steps.Task task) = scan_after steered h task
step_after steered h (steps.Single task micros) = (commands.Single task micros, last_instant h)

-- No more steps follow one that was answered so: it was refused, hit a breakpoint, or ended the scan of a program with a fault.
abbrev pub ends_steps : Verdict → Bool
ends_steps (Err refusal) = true
ends_steps (Ok (Scanned ran faulted skipped overruns hit)) = hit || not (faulted.bits == 0)
ends_steps (Ok _) = false
