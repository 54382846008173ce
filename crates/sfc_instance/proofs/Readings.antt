-- What the expressions of a scan read.
use Rattle.std.proofs.Common.{◌≡◌, ◌-ℤ◌, ℕ, Bool, cond, List, length, slice_index_or, ℤ, pos, ap, ◌∙◌, arith}
use Rattle.std.specs.Prelude.{map}
use Rattle.std.specs.List.{range_with_len}
use Rattle.std.proofs.lemmas.List.FromFn.{fill_by_all, length-map-range_with_len, get_or-map-range_with_len}
use Rattle.sfc_flags.specs.Flags.{flag}
use Rattle.sfc_tables.specs.Tables.{Tabled, tables_of}
use Rattle.sfc_evolve.specs.Agreement.{StepsAgree, since_of, held_times_of}
use Rattle.sfc_evolve.specs.Clearing.{step_count}
use Rattle.sfc_evolve.specs.Evolution.{active_steps, is_active, step_time}
use Rattle.sfc_evolve.specs.declared.steps.Steps.{Steps}
use Rattle.sfc_evolve.proofs.Shown.{worked_out_is}
use Rattle.sfc_plant.specs.Plants.{PlantData}
use Rattle.sfc_image.specs.Changes.{Change}
use Rattle.sfc_image.specs.Environments.{environment_of}
use Rattle.sfc_instance.specs.declared.program_context.ProgramContext.{ProgramContext}
use Rattle.sfc_instance.specs.Life.{Life, evolution_rows, evolution_scans}
use Rattle.sfc_plant.specs.Finding.{chart_of}
use Rattle.sfc_instance.specs.Contexts.{IsContextOf}
use Rattle.sfc_instance.specs.ProgramScan.{environment, step_times}

-- the tables of a context are those of its instance's chart
pub tables_is : (plant : PlantData) (context : ProgramContext) → IsContextOf plant context → context.tables.now ≡ tables_of (chart_of plant context.instance)
tables_is plant context is = is.tables ∙ ap tables_of is.chart

-- the times of steps, worked out from what is kept of them
pub times_are : (tables : Tabled) (life : Life) (t : ℤ) (steps : Steps) (active : List Bool) (since held : List ℤ) (at : ℤ)
    → StepsAgree tables steps (evolution_scans life) → active ≡ active_steps tables (evolution_rows tables life) → since ≡ since_of steps
    → held ≡ held_times_of steps → at ≡ t
    → map (λ s. cond (flag active s) (at -ℤ slice_index_or since s (pos 0)) (slice_index_or held s (pos 0))) (range_with_len 0 (length active))
    ≡ step_times tables life t
times_are tables life t steps active since held at agrees active_is since_is held_is at_is =
    let rows = evolution_rows tables life in
    let n = step_count tables in
    let time : ℕ → ℤ = λ s. cond (flag active s) (at -ℤ slice_index_or since s (pos 0)) (slice_index_or held s (pos 0)) in
    let long : length active ≡ n = ap length active_is ∙ length-map-range_with_len (is_active tables rows) 0 n in
    fill_by_all (λ s. step_time tables rows s t) (map time (range_with_len 0 (length active))) n (pos 0)
    (length-map-range_with_len time 0 (length active) ∙ long)
    (λ s lt. get_or-map-range_with_len time 0 (length active) s s (pos 0) (omega (arith, lt, long)) (omega arith)
    ∙ (λ i. cond (flag (active_is i) s) (at_is i -ℤ slice_index_or (since_is i) s (pos 0)) (slice_index_or (held_is i) s (pos 0)))
    ∙ worked_out_is tables steps (evolution_scans life) s t agrees lt)

-- what is read
pub environment_is : (plant : PlantData) (context : ProgramContext) (life : Life) (changes : List Change) (t : ℤ) (q : Bool)
    (active : List Bool) (times : List ℤ) → IsContextOf plant context
    → active ≡ active_steps context.tables.now (evolution_rows context.tables.now life) → times ≡ step_times context.tables.now life t
    → environment_of plant changes context.instance (record { active = active; times = times; q = q })
    ≡ environment plant context.instance life changes t q
environment_is plant context life changes t q active times is active_is times_is =
    let made = tables_is plant context is in
    let a = active_is ∙ ap (λ (x : Tabled). active_steps x (evolution_rows x life)) made in
    let b = times_is ∙ ap (λ (x : Tabled). step_times x life t) made in
    (λ i. environment_of plant changes context.instance (record { active = a i; times = b i; q = q }))
