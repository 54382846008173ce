-- Which scan comes next, and the scans of all tasks at their releases (2.7.2).
use Rattle.std.specs.Prelude.{◌≡◌, ◌⊎◌, ℕ, ◌+◌, ◌-◌, ◌^◌, ◌==◌, Bool, cond, if◌then◌else◌, int_le, int_lt, ℤ, pos, negsuc}
use Rattle.std.specs.Prelude.{Option, Some, None, option_map, Ok, Err}
use Rattle.sfc_events.specs.declared.command.Answer.TheVariants.{Scanned}
use Rattle.sfc_events.specs.declared.command.Command.TheVariants.{Scan}
use Rattle.sfc_events.specs.declared.refusal.Refusal.{Refusal}
use Rattle.sfc_events.specs.Refusals as refusals
use Rattle.sfc_replay.specs.sfc_debug.Histories.{CommandHistory, TimedCommand}
use Rattle.sfc_replay.specs.sfc_debug.Steered.{Steered}
use Rattle.sfc_replay.specs.sfc_debug.Verdict.{after, verdict}
use Rattle.sfc_replay.specs.sfc_output.Output.{Verdict, debugger_of}
use Rattle.sfc_session.specs.Scanning.{is_out_of_turn, next_among, raw_of, scan_at, tasks_of, turn_among}
use Rattle.sfc_session.specs.Sessions.{last_instant}
use Rattle.sfc_c.specs.declared.advanced.Advanced.{Advanced}
use Rattle.sfc_c.specs.declared.next.NextScan.{NextScan}
use Rattle.sfc_c.specs.declared.plc.Plc.{Plc}
use Rattle.sfc_c.specs.declared.scanning.Scan.{Scan as Made}
use Rattle.sfc_c.specs.declared.scanning.Turn.{Turn}
use Rattle.sfc_c.specs.declared.scanning.Turn.TheVariants.{Taken, NoTurn}
use Rattle.sfc_c.specs.Codes.{no_memory}
use Rattle.sfc_c.specs.Readings.{Gives}
use Rattle.sfc_c.specs.Resources.{Stands}

-- ---- the next scan

-- now, where it is a task's turn; else at the next release, if there is one
abbrev pub instant_by : Option ℕ → Option ℤ → ℤ → (ℤ → ℤ) → Option ℤ
instant_by (Some task) next now raw = Some now
instant_by None next now raw = option_map raw next

-- The raw instant of the scan that comes next: that of the latest command, where it is a task's turn then, else the earliest next
-- release of all tasks; None where no task has one.
abbrev pub next_instant : Steered → CommandHistory → Option ℤ
next_instant s h =
    instant_by (turn_among s h (last_instant h) (tasks_of s)) (next_among s h (last_instant h) None (tasks_of s))
    (last_instant h) (raw_of (last_instant h) ((debugger_of s).state h).clock.instant)

abbrev pub up_to : ℤ → Option ℤ → Option ℤ
up_to until None = None
up_to until (Some raw) = if int_le raw until then Some raw else None

-- the scan that comes next, up to an instant that the latest command hasn't passed
abbrev pub next_scan : Steered → ℤ → CommandHistory → Option TimedCommand
next_scan s until h = if int_lt until (last_instant h) then None else option_map (scan_at s h) (up_to until (next_instant s h))

-- ---- how it is made

abbrev pub scan_of : ℕ → ℤ → TimedCommand
scan_of task raw = (Scan (record { 0 = task }), raw)

-- this scan was made, and the resource stands behind it
abbrev pub IsMade : Steered → CommandHistory → TimedCommand → Made → Plc → Type 0
IsMade s h timed made new =
    (scan_of made.task.0 made.raw ≡ timed) × (made.answer ≡ (debugger_of s).verdict h timed) × Stands new ((debugger_of s).after h timed)

-- that of the task whose turn it is was made at a raw instant; or it is no task's turn, and the earliest next release is found
abbrev pub TakesTurn : Steered → CommandHistory → ℤ → Turn → Plc → Type 0
TakesTurn s h raw (Taken made) new =
    (task : ℕ) × (turn_among s h raw (tasks_of s) ≡ Some task) × IsMade s h (scan_of task raw) made new
TakesTurn s h raw (NoTurn next) new =
    (turn_among s h raw (tasks_of s) ≡ None) × (next_among s h raw None (tasks_of s) ≡ next) × Stands new h

-- the scan was made, if there is one
abbrev pub MakesScan : Steered → CommandHistory → Option TimedCommand → Option Made → Plc → Type 0
MakesScan s h None None new = Stands new h
MakesScan s h (Some timed) (Some made) new = IsMade s h timed made new
MakesScan s h _ _ new = ⊥

-- ---- what is told of the next scan

-- the last instant that 64 bits have
abbrev pub latest : ℤ
latest = pos (2 ^ 63 - 1)

-- its task and its raw instant, where it is accepted
abbrev pub told_scan : Verdict → TimedCommand → Option NextScan
told_scan (Ok answer) (Scan task, raw) = Some (record { instant = raw; task = pos task.0 })
told_scan _ _ = None

abbrev pub told_made : Option Made → Option NextScan
told_made None = None
told_made (Some made) = told_scan made.answer (scan_of made.task.0 made.raw)

abbrev pub told_of : Steered → CommandHistory → Option TimedCommand → Option NextScan
told_of s h None = None
told_of s h (Some timed) = told_scan (verdict s.plant s.table h timed.0 timed.1) timed

-- what is told of the scan that comes next
abbrev pub told_next : Steered → CommandHistory → Option NextScan
told_next s h = told_of s h (next_scan s latest h)

-- it is given, with 0, or -3 where there is none; or memory was refused
abbrev pub IsGiven : Steered → CommandHistory → NextScan → NextScan → ℤ → Type 0
IsGiven s h old new result = Gives (told_next s h) old new result ⊎ ((result ≡ no_memory) × (new ≡ old))

-- ---- many scans

-- why no more are made
abbrev pub reached : ℤ
reached = pos 0

abbrev pub hit : ℤ
hit = pos 1

abbrev pub fault : ℤ
fault = pos 2

-- more come
abbrev pub goes_on : ℤ
goes_on = pos 3

-- a scan that hit a breakpoint, or ended that of a program with a fault
abbrev pub end_by : Bool → ℕ → ℤ
end_by hits faulted = cond hits hit (cond (faulted == 0) goes_on fault)

abbrev pub nothing_made : Advanced
nothing_made = record { scans = 0; instant = negsuc 0; faulted = 0; task = negsuc 0; end = goes_on }

-- what the next one is refused for; a task whose turn it isn't is not scanned
abbrev pub end_of : Refusal → ℤ
end_of refusal = cond (is_out_of_turn (Err refusal)) reached (pos (refusals.number_of refusal))

-- what is told behind a scan that was answered so
abbrev pub behind : Advanced → TimedCommand → Verdict → Advanced
behind told (Scan task, raw) (Ok (Scanned ran faulted skipped overruns hits)) =
    record { scans = told.scans + 1; instant = raw; faulted = faulted.bits; task = pos task.0; end = end_by hits faulted.bits }
behind told timed (Err refusal) =
    record { scans = told.scans; instant = told.instant; faulted = told.faulted; task = told.task; end = end_of refusal }
behind told timed _ = record { scans = told.scans + 1; instant = told.instant; faulted = told.faulted; task = told.task; end = goes_on }

-- where none comes
abbrev pub ended : Advanced → Advanced
ended told = record { scans = told.scans; instant = told.instant; faulted = told.faulted; task = told.task; end = reached }

abbrev pub behind_made : Advanced → Option Made → Advanced
behind_made told None = ended told
behind_made told (Some made) = behind told (scan_of made.task.0 made.raw) made.answer

-- what is told behind the scan that comes next, if one does
abbrev pub told_behind : Steered → CommandHistory → Advanced → Option TimedCommand → Advanced
told_behind s h told None = ended told
told_behind s h told (Some timed) = behind told timed (verdict s.plant s.table h timed.0 timed.1)

-- the commands behind it
abbrev pub behind_next : Steered → CommandHistory → Option TimedCommand → CommandHistory
behind_next s h None = h
behind_next s h (Some timed) = after s.plant s.table h timed

-- The scans that come one after the other up to an instant, as long as more come: the commands behind them, and what is told of them.
pub data Advances (s : Steered) (until : ℤ) (h : CommandHistory) : CommandHistory → Advanced → Type 0 where
  none : Advances s until h h nothing_made
  one_more : {g : CommandHistory} {told : Advanced} → Advances s until h g told → told.end ≡ goes_on
      → Advances s until h (behind_next s g (next_scan s until g)) (told_behind s g told (next_scan s until g))

-- Where more come all the same, so many were made that they aren't counted further.
abbrev pub IsEnd : Advanced → Type 0
IsEnd told = told.end ≡ goes_on → told.scans ≡ 2 ^ 64 - 1

-- 0, or where nothing was scanned for what the next scan is refused
abbrev pub code_of : Advanced → ℤ
code_of told = cond (told.scans == 0) (cond (int_le told.end goes_on) (pos 0) told.end) (pos 0)
