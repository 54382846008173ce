-- The scan that comes next.
use Rattle.std.proofs.Common.{◌≡◌, ◌∙◌, refl, ap, true, false, if◌then◌else◌, ℕ, Option, None, Some, ℤ, int_le, int_lt}
use Rattle.std.specs.Prelude.{option_map}
use Rattle.sfc_replay.specs.sfc_debug.Histories.{CommandHistory, TimedCommand}
use Rattle.sfc_replay.specs.sfc_debug.Steered.{Steered}
use Rattle.sfc_replay.specs.sfc_output.Output.{debugger_of}
use Rattle.sfc_session.specs.Scanning.{next_among, raw_of, scan_at, tasks_of, turn_among, turn_scan}
use Rattle.sfc_session.specs.Sessions.{last_instant}
use Rattle.sfc_c.specs.declared.plc.Plc.{Plc}
use Rattle.sfc_c.specs.declared.scanning.Scan.{Scan as Made}
use Rattle.sfc_c.specs.Advancing.{MakesScan, instant_by, next_instant, next_scan, scan_of, told_made, told_of, told_scan, up_to}

module _ (st : Steered) (until : ℤ) (h : CommandHistory) where
  abbrev now : ℤ
  now = last_instant h

  abbrev turn : Option ℕ
  turn = turn_among st h (last_instant h) (tasks_of st)

  abbrev next : Option ℤ
  next = next_among st h (last_instant h) None (tasks_of st)

  abbrev raw : ℤ → ℤ
  raw n = raw_of (last_instant h) ((debugger_of st).state h).clock.instant n

  pub passed_over : int_lt until (last_instant h) ≡ true → next_scan st until h ≡ None
  passed_over e = ap (λ t. if t then None else option_map (scan_at st h) (up_to until (next_instant st h))) e

  not_passed : int_lt until (last_instant h) ≡ false → next_scan st until h ≡ option_map (scan_at st h) (up_to until (next_instant st h))
  not_passed e = ap (λ t. if t then None else option_map (scan_at st h) (up_to until (next_instant st h))) e

  at_once : (task : ℕ) → turn ≡ Some task → next_instant st h ≡ Some (last_instant h)
  at_once task e = ap (λ o. instant_by o next (last_instant h) raw) e

  within : (t : ℤ) → int_le t until ≡ true → up_to until (Some t) ≡ Some t
  within t e = ap (λ b. if b then Some t else None) e

  beyond : (t : ℤ) → int_le t until ≡ false → up_to until (Some t) ≡ None
  beyond t e = ap (λ b. if b then Some t else None) e

  pub scan_now : (task : ℕ) → int_lt until (last_instant h) ≡ false → int_le (last_instant h) until ≡ true → turn ≡ Some task
      → next_scan st until h ≡ Some (scan_of task (last_instant h))
  scan_now task in_time le e =
      not_passed in_time
      ∙ ap (λ o. option_map (scan_at st h) (up_to until o)) (at_once task e)
      ∙ ap (option_map (scan_at st h)) (within (last_instant h) le)
      ∙ ap (λ o. Some (turn_scan o (last_instant h))) e

  waits : (o : Option ℤ) → turn ≡ None → next ≡ o → next_instant st h ≡ instant_by None o (last_instant h) raw
  waits o e f = ap (λ t. instant_by t next (last_instant h) raw) e ∙ ap (λ n. instant_by None n (last_instant h) raw) f

  pub scan_never : int_lt until (last_instant h) ≡ false → turn ≡ None → next ≡ None → next_scan st until h ≡ None
  scan_never in_time e f = not_passed in_time ∙ ap (λ o. option_map (scan_at st h) (up_to until o)) (waits None e f)

  pub scan_beyond : (n : ℤ) → int_lt until (last_instant h) ≡ false → turn ≡ None → next ≡ Some n → int_le (raw n) until ≡ false
      → next_scan st until h ≡ None
  scan_beyond n in_time e f late =
      not_passed in_time
      ∙ ap (λ o. option_map (scan_at st h) (up_to until o)) (waits (Some n) e f)
      ∙ ap (option_map (scan_at st h)) (beyond (raw n) late)

  pub scan_later : (n : ℤ) → int_lt until (last_instant h) ≡ false → turn ≡ None → next ≡ Some n → int_le (raw n) until ≡ true
      → next_scan st until h ≡ Some (scan_at st h (raw n))
  scan_later n in_time e f le =
      not_passed in_time
      ∙ ap (λ o. option_map (scan_at st h) (up_to until o)) (waits (Some n) e f)
      ∙ ap (option_map (scan_at st h)) (within (raw n) le)

-- what is told of the scan that was made, if one comes
pub told_so : (st : Steered) (h : CommandHistory) (o : Option TimedCommand) (made : Option Made) (new : Plc) → MakesScan st h o made new
    → told_made made ≡ told_of st h o
told_so st h None None new stands = refl
told_so st h (Some timed) (Some made) new is = (λ i. told_scan (is.1 i) (is.0 i))
told_so st h None (Some made) new wrong = absurd wrong
told_so st h (Some timed) None new wrong = absurd wrong
