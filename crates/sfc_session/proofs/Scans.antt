-- Scans that go on to a next release.
use Rattle.std.proofs.Common.{◌≡◌, ◌∙◌, refl, sym, ap, ℕ, List, ◌++◌, length, take, Option, Some, None, ℤ}
use Rattle.std.proofs.Math.Seq.{take-append_seam}
use Rattle.sfc_base.specs.declared.ids.TaskId.{TaskId}
use Rattle.sfc_events.specs.declared.command.Command.TheVariants.{Scan}
use Rattle.sfc_output.specs.sfc_debug.Histories.{CommandHistory}
use Rattle.sfc_output.specs.sfc_debug.Steered.{Steered}
use Rattle.sfc_output.specs.Output.{Verdict, debugger_of}
use Rattle.sfc_session.specs.Scanning.{goes_on, next_among, raw_of, release_in, scan_after, first_scan_after, scan_at, tasks_of, turn_among, turn_instant, turn_scan}
use Rattle.sfc_session.specs.Sessions.{last_instant}

-- what stands in front of a text that is cut off
pub front : (n : ℕ) (xs ys : List ℕ) → n ≡ length xs → take n (xs ++ ys) ≡ xs
front n xs ys e = ap (λ m. take m (xs ++ ys)) e ∙ take-append_seam xs ys

pub none_if : (o : Option ℤ) → ((x : ℤ) → o ≡ Some x → ⊥) → o ≡ None
none_if None never = refl
none_if (Some x) never = absurd (never x refl)

-- ---- of a task

-- where the first try went
module _ (st : Steered) (h : CommandHistory) (task : TaskId) (at : ℤ) (v : Verdict) (last : at ≡ last_instant h)
    (is : v ≡ (debugger_of st).verdict h (Scan task, at)) where
  abbrev run : ℤ
  run = ((debugger_of st).state h).clock.instant

  tried : (o : Option ℤ) → release_in v ≡ o → o ≡ release_in ((debugger_of st).verdict h (Scan task, last_instant h))
  tried o e = sym e ∙ ap release_in is ∙ ap (λ r. release_in ((debugger_of st).verdict h (Scan task, r))) last

  pub here : release_in v ≡ None → (Scan task, at) ≡ scan_after st h task
  here e = ap (λ r. (Scan task, r)) (last ∙ ap (λ o. goes_on o (last_instant h) run) (tried None e))

  pub there : (next : ℤ) → release_in v ≡ Some next → (Scan task, raw_of (last_instant h) run next) ≡ scan_after st h task
  there next e = ap (λ o. (Scan task, goes_on o (last_instant h) run)) (tried (Some next) e)

-- ---- of the task that goes first

module _ (st : Steered) (h : CommandHistory) (at : ℤ) (last : at ≡ last_instant h) where
  abbrev clock : ℤ
  clock = ((debugger_of st).state h).clock.instant

  abbrev turn : ℤ → Option ℕ
  turn raw = turn_among st h raw (tasks_of st)

  abbrev next : ℤ → Option ℤ
  next raw = next_among st h raw None (tasks_of st)

  -- it is this task's turn at the instant of the last command
  pub first_here : (task : ℕ) → turn at ≡ Some task → (Scan (record { 0 = task }), at) ≡ first_scan_after st h
  first_here task is =
      let at_last : turn (last_instant h) ≡ Some task = sym (ap turn last) ∙ is in
      ap (λ r. (Scan (record { 0 = task }), r)) last
      ∙ ap (λ o. turn_scan o (last_instant h)) (sym at_last)
      ∙ ap (λ o. scan_at st h (turn_instant o (next (last_instant h)) (last_instant h) clock)) (sym at_last)

  -- it is no task's turn there
  pub first_later : (o : Option ℤ) → turn at ≡ None → next at ≡ o → scan_at st h (goes_on o (last_instant h) clock) ≡ first_scan_after st h
  first_later o none found =
      let at_last : turn (last_instant h) ≡ None = sym (ap turn last) ∙ none in
      let next_last : next (last_instant h) ≡ o = sym (ap next last) ∙ found in
      ap (λ n. scan_at st h (turn_instant None n (last_instant h) clock)) (sym next_last)
      ∙ ap (λ t. scan_at st h (turn_instant t (next (last_instant h)) (last_instant h) clock)) (sym at_last)
