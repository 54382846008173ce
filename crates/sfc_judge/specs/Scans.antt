-- What RUN and UNTIL give: the scans of all tasks at each of their releases, in turn (2.7.2), and the commands of stimuli.
use Rattle.std.specs.Prelude.{ℕ, zero, suc, ◌*◌, nat_lt, Bool, true, false, ◌&&◌}
use Rattle.std.specs.Prelude.{if◌then◌else◌, List, [], ◌∷◌, length, ℤ, int_le, int_lt, ◌-ℤ◌, pos}
use Rattle.std.specs.Prelude.{Option, Some, None, option_map}
use Rattle.std.specs.Int.{saturate_signed, w64}
use Rattle.sfc_replay.specs.sfc_debug.Histories.{TimedCommand}
use Rattle.sfc_replay.specs.sfc_debug.Steered.{Steered}
use Rattle.sfc_replay.specs.sfc_output.Output.{debugger_of}
use Rattle.sfc_session.specs.Scanning.{next_among, raw_of, scan_at, tasks_of, turn_among}
use Rattle.sfc_session.specs.Sessions.{last_instant}
use Rattle.sfc_judge.specs.declared.due.Due.{Due}
use Rattle.sfc_cases.specs.declared.joined.Condition.{Condition}
use Rattle.sfc_judge.specs.Moments.{Moment, Step, behind_step, plain_step, reads}
use Rattle.sfc_judge.specs.Dues.{due_by, given_at, stimulus_step}

-- ---- the next scan

-- now, where it is a task's turn; else at the next release, if there is one
abbrev pub instant_by : Option ℕ → Option ℤ → ℤ → (ℤ → ℤ) → Option ℤ
instant_by (Some task) next now raw = Some now
instant_by None next now raw = option_map raw next

-- The raw instant of the scan that comes next: of the task whose turn it is, or where it is no task's turn at the clock's instant, at the
-- earliest next release of all tasks; None where no task has one.
abbrev pub next_instant : Steered → Moment → Option ℤ
next_instant steered m =
    instant_by (turn_among steered m.history m.clock (tasks_of steered)) (next_among steered m.history m.clock None (tasks_of steered))
    m.clock (raw_of (last_instant m.history) ((debugger_of steered).state m.history).clock.instant)

abbrev pub up_to : ℤ → Option ℤ → Option ℤ
up_to limit None = None
up_to limit (Some raw) = if int_le raw limit then Some raw else None

-- the scan that comes next, up to a limit that the clock hasn't passed
abbrev pub next_scan : Steered → ℤ → Moment → Option TimedCommand
next_scan steered limit m =
    if int_lt limit m.clock then None else option_map (scan_at steered m.history) (up_to limit (next_instant steered m))

-- ---- the next command

-- the last instant before this one
abbrev pub before : ℤ → ℤ
before instant = saturate_signed w64 (instant -ℤ pos 1)

-- a scan that comes before the stimulus, or else this
abbrev pub scan_or : Moment → Due → Option TimedCommand → Option Step
scan_or m due None = Some (stimulus_step m due)
scan_or m due (Some scan) = Some (plain_step m scan)

abbrev pub next_by : Steered → ℤ → Moment → Option Due → Option Step
next_by steered limit m None = option_map (plain_step m) (next_scan steered limit m)
next_by steered limit m (Some due) = scan_or m due (next_scan steered (before (given_at m due)) m)

-- What comes next up to a limit: the scan that does, or the command of a stimulus, which goes before a scan of the same instant.
abbrev pub next_step : Steered → ℤ → Moment → Option Step
next_step steered limit m = next_by steered limit m (due_by m limit)

-- ---- RUN and UNTIL

-- the condition is TRUE, if there is one
abbrev pub is_met : Steered → Option Condition → Moment → Bool
is_met steered None m = false
is_met steered (Some until) m = reads steered m true until

-- what comes next, where the condition isn't TRUE yet
abbrev pub step_wanted : Steered → Option Condition → ℤ → Moment → Option Step
step_wanted steered until limit m = if is_met steered until m then None else next_step steered limit m

abbrev pub step_then : Option Step → (Step → List Step) → List Step
step_then None behind = []
step_then (Some step) behind = step ∷ behind step

-- One command after the other, n at the most, until none comes up to the limit or the condition is TRUE.
unfoldable pub run_steps : Steered → Option Condition → ℤ → ℕ → Moment → List Step
run_steps steered until limit zero m = []
run_steps steered until limit (suc n) m =
    step_then (step_wanted steered until limit m) (λ step. run_steps steered until limit n (behind_step steered m step))

-- the most commands of a line
abbrev pub most : ℕ
most = 10000 * 10000

abbrev pub is_met_if : Steered → Option Condition → Moment → Bool
is_met_if steered None m = true
is_met_if steered (Some until) m = reads steered m true until

-- fewer commands than the most were enough, and the condition is TRUE behind them, if there is one
abbrev pub is_reached : Steered → Option Condition → List Step → Moment → Bool
is_reached steered until given m = nat_lt (length given) most && is_met_if steered until m
