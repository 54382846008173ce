-- Which transitions a scan clears, which steps are active, and for how long (2.6.2, 2.6.3, 2.6.5).
use Rattle.std.specs.Prelude.{◌≡◌, ◌==◌, ℕ, Bool, false, not, ◌&&◌, ◌||◌, List, [], ◌∷◌, map, ℤ}
use Rattle.std.specs.List.{list_any, range_with_len}
use Rattle.sfc_base.specs.declared.references.StepId.{StepId}
use Rattle.sfc_flags.specs.Flags.{flag, places_from}
use Rattle.sfc_tables.specs.Tables.{Tabled}
use Rattle.sfc_evolve.specs.Lookback.{is_in, time_in, is_empty}
use Rattle.sfc_evolve.specs.Marks.{has}
use Rattle.sfc_evolve.specs.Clearing.{step_count, preceding_of, following_of, cleared_set}

-- what one scan is told: the condition of each transition, in text order, and the instant
pub record Scan : Type 0 where
  pub conditions : List Bool
  pub at : ℤ

-- none of these conditions is TRUE
abbrev pub AreFalse : List Bool → Type 0
AreFalse conditions = (tr : ℕ) → flag conditions tr ≡ false

-- the condition of this transition is TRUE, and no other is
abbrev pub IsAlone : ℕ → List Bool → Type 0
IsAlone transition conditions = (tr : ℕ) → flag conditions tr ≡ (tr == transition)

-- One scan of a program: its instant, whether it is the first of a life, and which transitions it cleared. The scans of
-- a life are listed newest first.
pub record Row : Type 0 where
  pub at : ℤ
  pub first : Bool
  pub cleared : List Bool

-- the step is among these steps of a cleared transition
abbrev pub some_cleared : (ℕ → List StepId) → List Bool → ℕ → Bool
some_cleared side cleared s = list_any (λ tr. has (side tr) s) (places_from cleared 0)

-- it follows a cleared transition, or is initial in the first scan
abbrev pub activates : Tabled → Bool → List Bool → ℕ → Bool
activates tables first cleared s = some_cleared (following_of tables.sides) cleared s || (first && flag tables.initial s)

-- it precedes a cleared transition
abbrev pub leaves : Tabled → List Bool → ℕ → Bool
leaves tables cleared s = some_cleared (preceding_of tables.sides) cleared s

-- the scan activates the step
abbrev pub is_activated : Tabled → ℕ → Row → Bool
is_activated tables s row = activates tables row.first row.cleared s

-- the scan deactivates the step, and doesn't activate it anew
abbrev pub is_deactivated : Tabled → ℕ → Row → Bool
is_deactivated tables s row = not (is_activated tables s row) && leaves tables row.cleared s

-- The step is active after these scans: one activated it, and no later one deactivated it (2.6.2).
abbrev pub is_active : Tabled → List Row → ℕ → Bool
is_active tables rows s = is_in (is_activated tables s) (is_deactivated tables s) rows

-- of each step, by its number, whether it is active after these scans
abbrev pub active_steps : Tabled → List Row → List Bool
active_steps tables rows = map (is_active tables rows) (range_with_len 0 (step_count tables))

-- The step's time up to now: since its latest activation, and up to the scan that deactivated it then, if one did; 0
-- where it was never activated (2.6.2; our choice where it was never active).
abbrev pub step_time : Tabled → List Row → ℕ → ℤ → ℤ
step_time tables rows s now = time_in (is_activated tables s) (is_deactivated tables s) (λ row. row.at) rows now

-- of each step, by its number, its time up to now
abbrev pub step_times : Tabled → List Row → ℤ → List ℤ
step_times tables rows now = map (λ s. step_time tables rows s now) (range_with_len 0 (step_count tables))

-- The row of the next scan. No step is active before the first scan of a life, so that one clears nothing.
abbrev pub row_after : Tabled → List Row → Scan → Row
row_after tables rows scan = record {
  at = scan.at;
  first = is_empty rows;
  cleared = cleared_set tables (is_active tables rows) scan.conditions;
}

-- the rows of these scans
abbrev pub rows_of : Tabled → List Scan → List Row
rows_of tables [] = []
rows_of tables (scan ∷ scans) = row_after tables (rows_of tables scans) scan ∷ rows_of tables scans

-- the latest scan cleared the transition
abbrev pub was_cleared : List Row → ℕ → Bool
was_cleared [] tr = false
was_cleared (row ∷ rows) tr = flag row.cleared tr

-- the latest scan activated the step
abbrev pub was_activated : Tabled → List Row → ℕ → Bool
was_activated tables [] s = false
was_activated tables (row ∷ rows) s = is_activated tables s row
