-- The scan that comes next.
use Rattle.std.proofs.Common.{◌≡◌, ◌∙◌, refl, sym, ap, true, false, if◌then◌else◌, ℕ, Option, None, Some, ℤ, int_le, int_lt}
use Rattle.std.specs.Prelude.{option_map}
use Rattle.sfc_replay.specs.sfc_debug.Histories.{TimedCommand}
use Rattle.sfc_replay.specs.sfc_debug.Steered.{Steered}
use Rattle.sfc_replay.specs.sfc_output.Output.{debugger_of}
use Rattle.sfc_session.specs.Scanning.{next_among, raw_of, scan_at, tasks_of, turn_among, turn_scan}
use Rattle.sfc_session.specs.Sessions.{last_instant}
use Rattle.sfc_judge.specs.Moments.{Moment}
use Rattle.sfc_judge.specs.Running.Benches.{scan_of}
use Rattle.sfc_judge.specs.Scans.{instant_by, next_instant, next_scan, up_to}

module _ (st : Steered) (limit : ℤ) (m : Moment) where
  abbrev turn : Option ℕ
  turn = turn_among st m.history m.clock (tasks_of st)

  abbrev next : Option ℤ
  next = next_among st m.history m.clock None (tasks_of st)

  abbrev raw : ℤ → ℤ
  raw n = raw_of (last_instant m.history) ((debugger_of st).state m.history).clock.instant n

  pub passed_over : int_lt limit m.clock ≡ true → next_scan st limit m ≡ None
  passed_over e = ap (λ t. if t then None else option_map (scan_at st m.history) (up_to limit (next_instant st m))) e

  not_passed : int_lt limit m.clock ≡ false → next_scan st limit m ≡ option_map (scan_at st m.history) (up_to limit (next_instant st m))
  not_passed e = ap (λ t. if t then None else option_map (scan_at st m.history) (up_to limit (next_instant st m))) e

  at_once : (task : ℕ) → turn ≡ Some task → next_instant st m ≡ Some m.clock
  at_once task e = ap (λ o. instant_by o next m.clock raw) e

  within : (t : ℤ) → int_le t limit ≡ true → up_to limit (Some t) ≡ Some t
  within t e = ap (λ b. if b then Some t else None) e

  beyond : (t : ℤ) → int_le t limit ≡ false → up_to limit (Some t) ≡ None
  beyond t e = ap (λ b. if b then Some t else None) e

  pub scan_now : (task : ℕ) → int_lt limit m.clock ≡ false → int_le m.clock limit ≡ true → turn ≡ Some task
      → next_scan st limit m ≡ Some (scan_of task m.clock)
  scan_now task in_time le e =
      not_passed in_time
      ∙ ap (λ o. option_map (scan_at st m.history) (up_to limit o)) (at_once task e)
      ∙ ap (option_map (scan_at st m.history)) (within m.clock le)
      ∙ ap (λ o. Some (turn_scan o m.clock)) e

  waits : (o : Option ℤ) → turn ≡ None → next ≡ o → next_instant st m ≡ instant_by None o m.clock raw
  waits o e f = ap (λ t. instant_by t next m.clock raw) e ∙ ap (λ n. instant_by None n m.clock raw) f

  pub scan_never : int_lt limit m.clock ≡ false → turn ≡ None → next ≡ None → next_scan st limit m ≡ None
  scan_never in_time e f = not_passed in_time ∙ ap (λ o. option_map (scan_at st m.history) (up_to limit o)) (waits None e f)

  pub scan_beyond : (n : ℤ) → int_lt limit m.clock ≡ false → turn ≡ None → next ≡ Some n → int_le (raw n) limit ≡ false
      → next_scan st limit m ≡ None
  scan_beyond n in_time e f late =
      not_passed in_time
      ∙ ap (λ o. option_map (scan_at st m.history) (up_to limit o)) (waits (Some n) e f)
      ∙ ap (option_map (scan_at st m.history)) (beyond (raw n) late)

  pub scan_later : (n : ℤ) → int_lt limit m.clock ≡ false → turn ≡ None → next ≡ Some n → int_le (raw n) limit ≡ true
      → next_scan st limit m ≡ Some (scan_at st m.history (raw n))
  scan_later n in_time e f le =
      not_passed in_time
      ∙ ap (λ o. option_map (scan_at st m.history) (up_to limit o)) (waits (Some n) e f)
      ∙ ap (option_map (scan_at st m.history)) (within (raw n) le)
