-- The times that are answered.
use Rattle.std.proofs.Common.{◌≡◌, ◌<◌, ◌-ℤ◌, ◌∙◌, ℕ, ℤ, List, cond, ap, sym}
use Rattle.sfc_flags.specs.Flags.{flag}
use Rattle.sfc_tables.specs.Tables.{Tabled}
use Rattle.sfc_evolve.specs.declared.steps.Steps.{Steps}
use Rattle.sfc_evolve.specs.Clearing.{step_count}
use Rattle.sfc_evolve.specs.Evolution.{Scan, rows_of, is_active, active_steps, step_time}
use Rattle.sfc_evolve.specs.Agreement.{StepsAgree, shown_time, since_of, held_times_of}
use Rattle.sfc_evolve.specs.Private.Keeping.{number}
use Rattle.sfc_evolve.proofs.Listed.{listed}

pub shown_is : (tables : Tabled) (steps : Steps) (scans : List Scan) (s : ℕ) (t : ℤ) → StepsAgree tables steps scans
    → s < step_count tables → shown_time steps t s ≡ step_time tables (rows_of tables scans) s t
unfolding StepsAgree shown_time since_of held_times_of
shown_is tables steps scans s t k lt = sym (k.fields.time s lt t)

-- the same, worked out over the flags of active steps
pub worked_out_is : (tables : Tabled) (steps : Steps) (scans : List Scan) (s : ℕ) (t : ℤ) → StepsAgree tables steps scans
    → s < step_count tables
    → cond (flag (active_steps tables (rows_of tables scans)) s) (t -ℤ number (since_of steps) s) (number (held_times_of steps) s)
    ≡ step_time tables (rows_of tables scans) s t
unfolding StepsAgree since_of held_times_of
worked_out_is tables steps scans s t k lt =
    let flags = listed (is_active tables (rows_of tables scans)) (step_count tables) steps.active k.size.same_steps k.fields.activity in
    ap (λ f. cond (flag f s) (t -ℤ number steps.since.items s) (number steps.held_times.items s)) (sym flags) ∙ sym (k.fields.time s lt t)
