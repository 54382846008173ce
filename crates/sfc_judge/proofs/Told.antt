-- How many overruns the latest scan of a task told.
use Rattle.std.proofs.Common.{◌≡◌, ◌∙◌, refl, sym, ap, ℕ, ◌==◌, ◌<◌, ◌≤◌, nat_lt, arith, Bool, true, false, if◌then◌else◌, List, [], ◌∷◌, length, ℤ, Option, Some, None, Result, Ok, Err}
use Rattle.std.specs.Prelude.{slice_get, unwrap_or}
use Rattle.std.proofs.lemmas.Bool.{eqb-true, ltb-false, ltb-true, lt-ltb}
use Rattle.std.proofs.lemmas.Option.{slice_get_past}
use Rattle.sfc_base.specs.declared.ids.TaskId.{TaskId}
use Rattle.sfc_events.specs.declared.command.Command.{Command}
use Rattle.sfc_replay.specs.sfc_debug.Histories.{CommandHistory, TimedCommand}
use Rattle.sfc_replay.specs.sfc_debug.Steered.{Steered}
use Rattle.sfc_replay.specs.sfc_output.Output.{Verdict, debugger_of}
use Rattle.sfc_session.specs.Scanning.{is_out_of_turn}
use Rattle.sfc_replay.specs.sfc_core.Answers.{overruns_of}
use Rattle.sfc_replay.specs.sfc_debug.States.{erasure}
use Rattle.sfc_judge.specs.Holding.{overruns_at, scans_task, task_of, told_overruns}

-- in a table of all tasks
in_table : (table : List ℕ) (task n : ℕ) (x : ℕ) → length table ≡ n → ((nat_lt task n ≡ true) → slice_get table task ≡ Some x)
    → ((nat_lt task n ≡ false) → x ≡ 0) → unwrap_or (slice_get table task) 0 ≡ x
in_table table task n x count there out = by (nat_lt task n) refl
  where
    by : (t : Bool) → nat_lt task n ≡ t → unwrap_or (slice_get table task) 0 ≡ x
    by true e = ap (λ o. unwrap_or o 0) (there e)
    by false e =
        let past : n ≤ task = ltb-false task n e in
        let long : length table ≤ task = omega (arith, past, count) in
        ap (λ o. unwrap_or o 0) (slice_get_past table task long) ∙ sym (out e)

module _ (st : Steered) where
  -- a task that isn't there has none
  no_task : (h : CommandHistory) (task : TaskId) → nat_lt task.0 (length st.plant.tasks) ≡ false → overruns_at st h task ≡ 0
  no_task h task out = ap (λ t. if t then overruns_of st.plant (erasure st.plant st.table h) task else 0) out

  none_by : (timed : TimedCommand) (h : CommandHistory) (task : TaskId) → nat_lt task.0 (length st.plant.tasks) ≡ false
      → told_overruns st h task ≡ 0 → (t : Bool) → scans_task task (task_of timed.0) ≡ t → told_overruns st (timed ∷ h) task ≡ 0
  none_by timed h task out before true e =
      ap (λ t. if t then overruns_at st (timed ∷ h) task else told_overruns st h task) e ∙ no_task (timed ∷ h) task out
  none_by timed h task out before false e = ap (λ t. if t then overruns_at st (timed ∷ h) task else told_overruns st h task) e ∙ before

  pub told_none : (h : CommandHistory) (task : TaskId) → nat_lt task.0 (length st.plant.tasks) ≡ false → told_overruns st h task ≡ 0
  told_none [] task out = refl
  told_none (timed ∷ h) task out = none_by timed h task out (told_none h task out) (scans_task task (task_of timed.0)) refl

  -- behind a command that doesn't scan it
  pub told_before : (h : CommandHistory) (timed : TimedCommand) (task : TaskId) → scans_task task (task_of timed.0) ≡ false
      → told_overruns st (timed ∷ h) task ≡ told_overruns st h task
  told_before h timed task e = ap (λ t. if t then overruns_at st (timed ∷ h) task else told_overruns st h task) e

  -- behind one that does
  pub told_now : (h : CommandHistory) (timed : TimedCommand) (task : TaskId) → scans_task task (task_of timed.0) ≡ true
      → told_overruns st (timed ∷ h) task ≡ overruns_at st (timed ∷ h) task
  told_now h timed task e = ap (λ t. if t then overruns_at st (timed ∷ h) task else told_overruns st h task) e

  -- ---- in a table that has them for all tasks

  abbrev pub IsTable : List ℕ → CommandHistory → Type 0
  IsTable table h = (task : TaskId) → task.0 < length st.plant.tasks → slice_get table task.0 ≡ Some (told_overruns st h task)

  pub told_there : (table : List ℕ) (h : CommandHistory) (task : TaskId) → length table ≡ length st.plant.tasks → IsTable table h
      → unwrap_or (slice_get table task.0) 0 ≡ told_overruns st h task
  told_there table h task count is =
      in_table table task.0 (length st.plant.tasks) (told_overruns st h task) count
      (λ less. is task (ltb-true task.0 (length st.plant.tasks) less)) (told_none h task)

  -- one scan of a task more
  pub told_kept : (old new : List ℕ) (h : CommandHistory) (timed : TimedCommand) (scanned : TaskId) (overruns : ℕ)
      → task_of timed.0 ≡ Some scanned → overruns ≡ overruns_at st (timed ∷ h) scanned → length old ≡ length st.plant.tasks
      → (scanned.0 < length old → slice_get new scanned.0 ≡ Some overruns)
      → ((place : ℕ) → (scanned.0 == place) ≡ false → slice_get new place ≡ slice_get old place) → IsTable old h → IsTable new (timed ∷ h)
  told_kept old new h timed scanned overruns scans now count kept others is = λ task less. by task less (scanned.0 == task.0) refl
    where
      by : (task : TaskId) → task.0 < length st.plant.tasks → (t : Bool) → (scanned.0 == task.0) ≡ t
          → slice_get new task.0 ≡ Some (told_overruns st (timed ∷ h) task)
      by task less true e =
          let same : scanned.0 ≡ task.0 = eqb-true scanned.0 task.0 e in
          let here : scanned.0 < length old = omega (arith, less, count, same) in
          ap (slice_get new) (sym same) ∙ kept here
          ∙ ap (λ n. Some n) (now ∙ ap (λ (n : ℕ). overruns_at st (timed ∷ h) (record { 0 = n })) same
          ∙ sym (told_now h timed task (ap (scans_task task) scans ∙ e)))
      by task less false e =
          others task.0 e ∙ is task less ∙ ap (λ n. Some n) (sym (told_before h timed task (ap (scans_task task) scans ∙ e)))
