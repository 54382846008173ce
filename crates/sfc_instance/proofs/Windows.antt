-- What a condition reads over a window.
use Rattle.std.proofs.Common.{◌≡◌, ⊎_elim, ◌<◌, ◌≤◌, nat_lt, ℕ, Bool, true, false, cond, List, length, slice_index_or, ℤ, pos, sym, ap, ◌∙◌, arith}
use Rattle.std.proofs.lemmas.Bool.{cases_lt}
use Rattle.std.proofs.lemmas.Bool.Decides.{nat_tests}
use Rattle.std.proofs.lemmas.List.{get_or_past}
use Rattle.std.proofs.lemmas.List.FromFn.{get_or-map-range_with_len, length-map-range_with_len}
use Rattle.sfc_base.specs.declared.references.StepId.{StepId}
use Rattle.sfc_expr.specs.Environment.{Environment}
use Rattle.sfc_flags.specs.Flags.{flag}
use Rattle.sfc_plant.specs.Finding.{chart_of}
use Rattle.sfc_tables.specs.Tables.{Tabled, tables_of}
use Rattle.sfc_evolve.specs.Evolution as evolution
use Rattle.sfc_evolve.proofs.Shown.{shown_is}
use Rattle.sfc_image.specs.Changes.{Change}
use Rattle.sfc_image.specs.Environments.{environment_of}
use Rattle.sfc_instance.specs.declared.program.Program.{Program}
use Rattle.sfc_instance.specs.declared.program_moment.ProgramMoment.{ProgramMoment}
use Rattle.sfc_instance.specs.declared.program_view.ProgramView.{ProgramView}
use Rattle.sfc_instance.specs.Agreement.{ProgramAgrees, StateAgrees, step_total, shown_elapsed, elapsed_at}
use Rattle.sfc_instance.specs.Life.{InstanceState, evolution_scans, evolution_rows, latest_instant}
use Rattle.sfc_instance.specs.ProgramScan.{environment, step_times}
use Rattle.sfc_instance.specs.Views.{Shows, environment_in, plant_in, instance_in, view_of, instant_of, environment_at}

module _ (tables : Tabled) (program : Program) (state : InstanceState) (agrees : ProgramAgrees tables program state)
    (sized : step_total program ≡ length tables.initial) (t : ℤ) where
  -- the time that is answered of a step that is there
  there : (s : ℕ) → s < length tables.initial
      → elapsed_at program t s ≡ evolution.step_time tables (evolution_rows tables state.life) s t
  unfolding ProgramAgrees StateAgrees elapsed_at
  there s lt = shown_is tables program.run.now.steps (evolution_scans state.life) s t agrees.now.steps lt

  abbrev time_at : ℕ → ℤ
  time_at s = evolution.step_time tables (evolution_rows tables state.life) s t

  abbrev times : List ℤ
  times = step_times tables state.life t

  within : (s : ℕ) → s < length tables.initial
      → cond (nat_lt s (step_total program)) (elapsed_at program t s) (pos 0) ≡ slice_index_or times s (pos 0)
  within s lt =
      let is : nat_lt s (step_total program) ≡ true = grind (arith, nat_tests, sized) in
      ap (λ (b : Bool). cond b (elapsed_at program t s) (pos 0)) is ∙ there s lt
      ∙ sym (get_or-map-range_with_len time_at 0 (length tables.initial) s s (pos 0) lt (omega arith))

  past : (s : ℕ) → length tables.initial ≤ s
      → cond (nat_lt s (step_total program)) (elapsed_at program t s) (pos 0) ≡ slice_index_or times s (pos 0)
  past s le =
      let is : nat_lt s (step_total program) ≡ false = grind (arith, nat_tests, sized) in
      ap (λ (b : Bool). cond b (elapsed_at program t s) (pos 0)) is
      ∙ sym (get_or_past times s (pos 0) (omega (arith, le, length-map-range_with_len time_at 0 (length tables.initial))))

  pub time_of_step : (s : ℕ) → cond (nat_lt s (step_total program)) (elapsed_at program t s) (pos 0) ≡ slice_index_or times s (pos 0)
  time_of_step s = ⊎_elim (within s) (past s) (cases_lt s (length tables.initial))

-- a time that is shown is the time at the latest scan
shown_at : (tables : Tabled) (program : Program) (state : InstanceState) → ProgramAgrees tables program state → (s : ℕ)
    → shown_elapsed program s ≡ elapsed_at program (latest_instant state.life) s
unfolding ProgramAgrees shown_elapsed elapsed_at
shown_at tables program state agrees s = ap (λ (t : ℤ). elapsed_at program t s) agrees.at

-- what a condition reads over a window, with the times of this instant
abbrev environment_of_view : ProgramView → ℤ → Environment
environment_of_view view t = record (environment_in view) {
  time_of = λ step. cond (nat_lt step.0 (step_total view.program.now)) (elapsed_at view.program.now t step.0) (pos 0);
}

at_instant : (view : ProgramView) (changes : List Change) (state : InstanceState) (t : ℤ) → Shows view changes state
    → environment_of_view view t ≡ environment (plant_in view) (instance_in view) state.life changes t false
unfolding Shows environment_in plant_in instance_in
at_instant view changes state t shows =
    let tables = view.tables.now in
    let made : tables ≡ tables_of (chart_of view.plant.now view.instance) = view.tabled in
    let times : (step : StepId) → _ ≡ _ = λ step. time_of_step tables view.program.now state shows.program view.steps_sized t step.0 in
    let read : _ ≡ _ = (λ i. record (shows.variables i) { time_of = λ step. times step i }) in
    read ∙ ap (λ (made : Tabled). environment_of view.plant.now changes view.instance (record {
      active = evolution.active_steps made (evolution_rows made state.life);
      times = step_times made state.life t;
      q = false;
    })) made

pub moment_is : (moment : ProgramMoment) (changes : List Change) (state : InstanceState) → Shows (view_of moment) changes state
    → environment_at moment
    ≡ environment (plant_in (view_of moment)) (instance_in (view_of moment)) state.life changes (instant_of moment) false
unfolding environment_at view_of instant_of
moment_is moment changes state shows = at_instant moment.view changes state moment.t shows

pub window_is : (view : ProgramView) (changes : List Change) (state : InstanceState) → Shows view changes state
    → environment_in view ≡ environment (plant_in view) (instance_in view) state.life changes (latest_instant state.life) false
unfolding Shows environment_in
window_is view changes state shows =
    let shown : (step : StepId) → _ ≡ _ = λ step. shown_at view.tables.now view.program.now state shows.program step.0 in
    (λ i. record (environment_in view) { time_of = λ step. cond (nat_lt step.0 (step_total view.program.now)) (shown step i) (pos 0) })
    ∙ at_instant view changes state (latest_instant state.life) shows

-- the flag of a step among those of all steps
pub active_flag : (tables : Tabled) (rows : List evolution.Row) (flags : List Bool) (s : ℕ) → flags ≡ evolution.active_steps tables rows
    → s < length tables.initial → flag flags s ≡ evolution.is_active tables rows s
active_flag tables rows flags s same lt =
    ap (λ (xs : List Bool). flag xs s) same
    ∙ get_or-map-range_with_len (evolution.is_active tables rows) 0 (length tables.initial) s s false lt (omega arith)
