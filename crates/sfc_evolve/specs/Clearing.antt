-- Which transitions a scan clears (2.6.3, 2.6.5).
use Rattle.std.specs.Prelude.{ℕ, ◌≡◌, ◌<◌, ◌↔◌, Bool, true, false, cond, not, ◌&&◌}
use Rattle.std.specs.Prelude.{List, [], ◌∷◌, length, replicate, slice_index_or, slice_set}
use Rattle.std.specs.List.{list_any, list_all}
use Rattle.sfc_base.specs.declared.ids.TransitionId.{TransitionId}
use Rattle.sfc_base.specs.declared.references.StepId.{StepId}
use Rattle.sfc_flags.specs.Flags.{flag}
use Rattle.sfc_tables.specs.Tables.{Sides, Tabled, sides_at}
use Rattle.sfc_evolve.specs.Marks.{has, marked}

abbrev pub step_count : Tabled → ℕ
step_count tables = length tables.initial

abbrev pub transition_count : Tabled → ℕ
transition_count tables = length tables.sides

abbrev pub preceding_of : List Sides → ℕ → List StepId
preceding_of sides tr = (sides_at sides record { 0 = tr }).preceding

abbrev pub following_of : List Sides → ℕ → List StepId
following_of sides tr = (sides_at sides record { 0 = tr }).following

-- a transition is enabled when all its preceding steps are active (2.6.3)
abbrev pub is_enabled : (ℕ → Bool) → List StepId → Bool
is_enabled active preceding = list_all (λ step. active step.0) preceding

-- the transition of rank j, by its place in the text; the first rank is 0
abbrev pub of_rank : Tabled → ℕ → ℕ
of_rank tables j = (slice_index_or tables.ranked j record { 0 = 0 }).0

-- some step is among both
abbrev pub shares : List StepId → List StepId → Bool
shares p q = list_any (λ step. has p step.0) q

-- Transition tr of rank j is enabled, its condition is true, and no member that ranks before it shares a preceding step
-- with it.
pub record MayClear (tables : Tabled) (active : ℕ → Bool) (conditions set : List Bool) (j : ℕ) : Type 0 where
  pub enabled : is_enabled active (preceding_of tables.sides (of_rank tables j)) ≡ true
  pub condition : flag conditions (of_rank tables j) ≡ true
  pub first : (i : ℕ) → i < j → flag set (of_rank tables i) ≡ true
      → shares (preceding_of tables.sides (of_rank tables i)) (preceding_of tables.sides (of_rank tables j)) ≡ false

-- a transition stands in the set exactly when it may clear
pub record IsClearedSet (tables : Tabled) (active : ℕ → Bool) (conditions set : List Bool) : Type 0 where
  pub sized : length set ≡ transition_count tables
  pub each : (j : ℕ) → j < transition_count tables
      → (flag set (of_rank tables j) ≡ true) ↔ MayClear tables active conditions set j

-- ---- the same set, rank by rank: `laws::one_cleared_set` says that it is that set, and that no other is

-- A transition is cleared when it is enabled, its condition is true, and no transition that ranks before it was cleared
-- by one of its preceding steps. `used` has the preceding steps of those (2.6.5).
abbrev pub is_cleared : (ℕ → Bool) → Bool → List StepId → List Bool → Bool
is_cleared active condition preceding used =
    is_enabled active preceding && condition && not (list_any (λ step. flag used step.0) preceding)

-- the cleared transitions, by place in the text, after those of `ranked`, the first in rank first
abbrev pub cleared_in : List Sides → (ℕ → Bool) → List Bool → List TransitionId → List Bool → List Bool → List Bool
cleared_in sides active conditions [] used cleared = cleared
cleared_in sides active conditions (tr ∷ ranked) used cleared =
    let preceding = (sides_at sides tr).preceding in
    let clears = is_cleared active (flag conditions tr.0) preceding used in
    cleared_in sides active conditions ranked (cond clears (marked preceding used) used) (slice_set cleared tr.0 clears)

-- the transitions that a scan clears, where these steps were active before it
abbrev pub cleared_set : Tabled → (ℕ → Bool) → List Bool → List Bool
cleared_set tables active conditions =
    cleared_in tables.sides active conditions tables.ranked (replicate (step_count tables) false)
    (replicate (transition_count tables) false)
