-- What is kept of the scans of a life, in place of their rows.
use Rattle.std.specs.Prelude.{All, ℕ, ◌≡◌, ◌<◌, ◌+◌, ◌*◌, Bool, true, false, not, cond}
use Rattle.std.specs.Prelude.{List, [], ◌∷◌, ℤ, pos, ◌-ℤ◌, length, slice_index_or, slice_set, sum_by}
use Rattle.sfc_base.specs.declared.references.StepId.{StepId}
use Rattle.sfc_flags.specs.Flags.{flag}
use Rattle.sfc_base.specs.declared.ids.TransitionId.{TransitionId}
use Rattle.sfc_tables.specs.Tables.{Sides, Tabled, sides_at}
use Rattle.sfc_evolve.specs.Lookback.{is_empty}
use Rattle.sfc_evolve.specs.Clearing.{step_count}
use Rattle.sfc_evolve.specs.Evolution.{Scan, rows_of, is_active, step_time, was_cleared, was_activated}

-- each is one of n steps
abbrev pub AllBelow : ℕ → List StepId → Type 0
AllBelow n steps = All (λ (step : StepId). step.0 < n) steps

abbrev pub number : List ℤ → ℕ → ℤ
number xs s = slice_index_or xs s (pos 0)

-- the flags with those of these steps cleared
abbrev pub unmarked : List StepId → List Bool → List Bool
unmarked [] flags = flags
unmarked (step ∷ steps) flags = unmarked steps (slice_set flags step.0 false)

-- the flags after one such change for each of these transitions
abbrev pub changed_by : (List StepId → List Bool → List Bool) → (ℕ → List StepId) → List ℕ → List Bool → List Bool
changed_by change side [] flags = flags
changed_by change side (tr ∷ trs) flags = changed_by change side trs (change (side tr) flags)

-- the times with those of these steps as they are at t
abbrev pub left_at : ℤ → List ℤ → List StepId → List ℤ → List ℤ
left_at t since [] held_times = held_times
left_at t since (step ∷ steps) held_times = left_at t since steps (slice_set held_times step.0 (t -ℤ number since step.0))

-- the same for the steps of these transitions
abbrev pub left_by : ℤ → List ℤ → (ℕ → List StepId) → List ℕ → List ℤ → List ℤ
left_by t since side [] held_times = held_times
left_by t since side (tr ∷ trs) held_times = left_by t since side trs (left_at t since (side tr) held_times)

-- the instants with those of these steps set
abbrev pub begun_at : ℤ → List ℕ → List ℤ → List ℤ
begun_at t [] since = since
begun_at t (s ∷ places) since = begun_at t places (slice_set since s t)

-- the instants with those of these steps set
abbrev pub put_at : ℤ → List StepId → List ℤ → List ℤ
put_at t [] since = since
put_at t (step ∷ steps) since = put_at t steps (slice_set since step.0 t)

-- the flags with those of these places set
abbrev pub set_at : List ℕ → List Bool → List Bool
set_at [] flags = flags
set_at (s ∷ places) flags = set_at places (slice_set flags s true)

-- of each step: whether it is active, when it was last activated, the time that it kept when it was left, and whether
-- the latest scan activated it; of each transition, whether the latest scan cleared it
pub record FieldsAgree (tables : Tabled) (begun : Bool) (active : List Bool) (since held_times : List ℤ) (cleared activated : List Bool)
    (scans : List Scan) : Type 0 where
  pub has_begun : begun ≡ not (is_empty scans)
  pub activity : (s : ℕ) → s < step_count tables → flag active s ≡ is_active tables (rows_of tables scans) s
  pub time : (s : ℕ) → s < step_count tables → (now : ℤ) →
      step_time tables (rows_of tables scans) s now ≡ cond (flag active s) (now -ℤ number since s) (number held_times s)
  pub clearing : (tr : ℕ) → flag cleared tr ≡ was_cleared (rows_of tables scans) tr
  pub activation : (s : ℕ) → s < step_count tables → flag activated s ≡ was_activated tables (rows_of tables scans) s

-- the work on these transitions, where each is looked up and tested
abbrev pub clearing_work : List Sides → List TransitionId → ℕ
clearing_work sides ranked = sum_by (λ tr. 1 + 3 * length (sides_at sides tr).preceding) ranked

-- and where steps are left and activated
abbrev pub moving_work : List Sides → ℕ
moving_work sides = sum_by (λ (s : Sides). 1 + 2 * length s.preceding + length s.following) sides
