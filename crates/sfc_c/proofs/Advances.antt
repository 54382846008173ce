-- Scans that come one after the other.
use Rattle.std.proofs.Common.{◌≡◌, refl, sym, subst, ℕ, ◌+◌, Option, Some, None, ℤ, pos, Ok, Err}
use Rattle.sfc_events.specs.declared.command.Answer.TheVariants as answers
use Rattle.sfc_events.specs.declared.refusal.Refusal.{Refusal}
use Rattle.sfc_events.specs.declared.refusal.Refusal.TheVariants as refusal
use Rattle.sfc_replay.specs.sfc_debug.Histories.{CommandHistory, TimedCommand}
use Rattle.sfc_replay.specs.sfc_debug.Steered.{Steered}
use Rattle.sfc_replay.specs.sfc_output.Output.{Verdict}
use Rattle.sfc_c.specs.declared.advanced.Advanced.{Advanced}
use Rattle.sfc_c.specs.declared.plc.Plc.{Plc}
use Rattle.sfc_c.specs.declared.scanning.Scan.{Scan as Made}
use Rattle.sfc_c.specs.Advancing.{Advances, MakesScan, behind, behind_made, behind_next, end_of, goes_on, next_scan, one_more, scan_of, told_behind}
use Rattle.sfc_c.specs.Handles.{Holds}
use Rattle.sfc_c.specs.Resources.{Stands, steered_in}

-- what is told behind the scan that was made, and where the resource stands
pub told_same : (st : Steered) (g : CommandHistory) (told : Advanced) (o : Option TimedCommand) (made : Option Made) (new : Plc)
    → MakesScan st g o made new → told_behind st g told o ≡ behind_made told made
told_same st g told None None new stands = refl
told_same st g told (Some timed) (Some made) new is = (λ i. behind told (sym is.0 i) (sym is.1 i))
told_same st g told None (Some made) new wrong = absurd wrong
told_same st g told (Some timed) None new wrong = absurd wrong

pub stands_behind : (st : Steered) (g : CommandHistory) (o : Option TimedCommand) (made : Option Made) (new : Plc)
    → MakesScan st g o made new → Stands new (behind_next st g o)
stands_behind st g None None new stands = stands
stands_behind st g (Some timed) (Some made) new is = is.2
stands_behind st g None (Some made) new wrong = absurd wrong
stands_behind st g (Some timed) None new wrong = absurd wrong

-- one scan more
pub goes_further : (st : Steered) (until : ℤ) (h : CommandHistory) (told : Advanced) (made : Option Made) (old new : Plc)
    → ((g : CommandHistory) → Stands old g → MakesScan st g (next_scan st until g) made new) → told.end ≡ goes_on
    → (g : CommandHistory) × Advances st until h g told × Stands old g
    → (g : CommandHistory) × Advances st until h g (behind_made told made) × Stands new g
goes_further st until h told made old new makes goes (g, advances, stands) =
    let is = makes g stands in (
      behind_next st g (next_scan st until g),
      subst (λ (t : Advanced). Advances st until h (behind_next st g (next_scan st until g)) t)
          (told_same st g told (next_scan st until g) made new is) (one_more advances goes),
      stands_behind st g (next_scan st until g) made new is,
    )

-- a resource that stands there holds the same
pub holds_there : (st : Steered) (until : ℤ) (h : CommandHistory) (told : Advanced) (new : Plc) → steered_in new ≡ st
    → (g : CommandHistory) × Advances st until h g told × Stands new g
    → (g : CommandHistory) × Advances st until h g told × Holds (Some new) st g
holds_there st until h told new same (g, advances, stands) = (g, advances, (same, stands))

-- ---- how many were made

refused : (r : Refusal) → end_of r ≡ goes_on → ⊥
refused (refusal.NotDue next) e = let f : pos 0 ≡ pos 3 = e in absurd (cc)
refused (refusal.Yield task) e = let f : pos 0 ≡ pos 3 = e in absurd (cc)
refused refusal.UnknownVar e = let f : pos 24 ≡ pos 3 = e in absurd (cc)
refused refusal.ValueType e = let f : pos 25 ≡ pos 3 = e in absurd (cc)
refused refusal.NotInput e = let f : pos 26 ≡ pos 3 = e in absurd (cc)
refused refusal.NotForced e = let f : pos 27 ≡ pos 3 = e in absurd (cc)
refused refusal.ClockBack e = let f : pos 28 ≡ pos 3 = e in absurd (cc)
refused refusal.UnknownTask e = let f : pos 31 ≡ pos 3 = e in absurd (cc)
refused refusal.UnknownProgram e = let f : pos 32 ≡ pos 3 = e in absurd (cc)
refused refusal.InstantRange e = let f : pos 33 ≡ pos 3 = e in absurd (cc)
refused refusal.Stopped e = let f : pos 34 ≡ pos 3 = e in absurd (cc)
refused refusal.NotRunning e = let f : pos 35 ≡ pos 3 = e in absurd (cc)
refused refusal.NotStopped e = let f : pos 36 ≡ pos 3 = e in absurd (cc)
refused refusal.NoSuchPoint e = let f : pos 37 ≡ pos 3 = e in absurd (cc)
refused refusal.TooManyPoints e = let f : pos 38 ≡ pos 3 = e in absurd (cc)
refused refusal.HistoryFull e = let f : pos 39 ≡ pos 3 = e in absurd (cc)
refused refusal.Ended e = let f : pos 40 ≡ pos 3 = e in absurd (cc)
refused refusal.NoSuchCondition e = let f : pos 42 ≡ pos 3 = e in absurd (cc)

by_answer : (told : Advanced) (task : ℕ) (raw : ℤ) (v : Verdict) → (behind told (scan_of task raw) v).end ≡ goes_on
    → (behind told (scan_of task raw) v).scans ≡ told.scans + 1
by_answer told task raw (Ok (answers.Scanned ran faulted skipped overruns hits)) e = refl
by_answer told task raw (Ok answers.Done) e = refl
by_answer told task raw (Ok (answers.Value v)) e = refl
by_answer told task raw (Err r) e = absurd (refused r e)

-- where more come, one more was made
pub one_more_made : (told : Advanced) (made : Option Made) → (behind_made told made).end ≡ goes_on
    → (behind_made told made).scans ≡ told.scans + 1
one_more_made told None e = let f : pos 0 ≡ pos 3 = e in absurd (cc)
one_more_made told (Some made) e = by_answer told made.task.0 made.raw made.answer e
