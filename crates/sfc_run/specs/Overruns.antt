-- When overruns are told beside the lines of a run: at most once a second for each task (our choice).
use Rattle.std.specs.Prelude.{ℕ, nat_lt, Bool, false, ◌&&◌, List, Option, Some, None, ℤ, pos, ◌+ℤ◌, ◌-ℤ◌, int_le}
use Rattle.std.specs.Int.{saturate_signed, w64}
use Rattle.std.specs.Prelude.{if◌then◌else◌, slice_get, slice_set}
use Rattle.sfc_base.specs.declared.ids.TaskId.{TaskId}
use Rattle.sfc_events.specs.declared.command.Answer.{Answer}
use Rattle.sfc_events.specs.declared.command.Answer.TheVariants.{Scanned}
use Rattle.sfc_events.specs.declared.command.Command.{Command}
use Rattle.sfc_events.specs.declared.command.Command.TheVariants.{Scan, Single}
use Rattle.sfc_events.specs.declared.command.TraceRow.{TraceRow}
use Rattle.sfc_run.specs.declared.overruns.LastTold.{LastTold}
use Rattle.sfc_run.specs.declared.overruns.OverrunsTold.{OverrunsTold}

-- the task of a scan
abbrev pub task_of : Command → Option TaskId
task_of (Scan task) = Some task
task_of (Single task delta) = Some task
task_of _ = None

-- its task's overruns since the opening
abbrev pub overruns_of : Answer → ℕ
overruns_of (Scanned ran faulted skipped overruns hit) = overruns
overruns_of _ = 0

-- what was last told of each task
unfoldable pub told_in : OverrunsTold → List LastTold
told_in told = told.tasks

-- so long ago that the first overrun is told at once
abbrev pub nothing_told : LastTold
nothing_told = record { overruns = 0; t = pos 0 -ℤ pos 1000000 }

-- They are more than were last told, and that was a second ago at least.
abbrev pub is_news : LastTold → ℕ → ℤ → Bool
is_news last overruns t = nat_lt last.overruns overruns && int_le (saturate_signed w64 (last.t +ℤ pos 1000000)) t

abbrev pub is_news_behind : Option LastTold → ℕ → ℤ → Bool
is_news_behind None overruns t = false
is_news_behind (Some last) overruns t = is_news last overruns t

-- the same of the task with this number
abbrev pub is_due_of : List LastTold → Option TaskId → TraceRow → Bool
is_due_of told None row = false
is_due_of told (Some task) row = is_news_behind (slice_get told task.0) (overruns_of row.answer) row.t

-- The overruns of the row's task are told with it.
abbrev pub is_due : List LastTold → TraceRow → Bool
is_due told row = is_due_of told (task_of row.command) row

abbrev pub told_after_of : List LastTold → Option TaskId → TraceRow → List LastTold
told_after_of told None row = told
told_after_of told (Some task) row =
    if is_due_of told (Some task) row then slice_set told task.0 (record { overruns = overruns_of row.answer; t = row.t }) else told

-- what was last told of each task behind the row
abbrev pub told_after : List LastTold → TraceRow → List LastTold
told_after told row = told_after_of told (task_of row.command) row
