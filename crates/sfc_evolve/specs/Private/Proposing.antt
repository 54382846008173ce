-- Which transitions may be enabled.
use Rattle.std.specs.Prelude.{ℕ, ◌≡◌, ◌<◌, Bool, true, List, [], ◌∷◌, map, slice_index_or}
use Rattle.sfc_flags.specs.Flags.{flag}
use Rattle.sfc_base.specs.declared.ids.TransitionId.{TransitionId}
use Rattle.sfc_tables.specs.Tables.{Tabled}
use Rattle.sfc_tables.specs.Departures.{departures}
use Rattle.sfc_evolve.specs.Clearing.{transition_count, preceding_of, is_enabled, of_rank}
use Rattle.sfc_evolve.specs.Private.Keeping.{set_at}

-- the flags with those of the transitions set whose first preceding step is one of these
abbrev pub proposed_by : Tabled → List ℕ → List Bool → List Bool
proposed_by tables [] flags = flags
proposed_by tables (s ∷ steps) flags = proposed_by tables steps (set_at (departures tables s) flags)

-- the transitions at these places of a list
abbrev pub at_places : List TransitionId → List ℕ → List TransitionId
at_places ranked places = map (λ j. slice_index_or ranked j record { 0 = 0 }) places

-- each transition that is enabled where these steps are active has the flag of its place in rank order
abbrev pub AreProposed : Tabled → (ℕ → Bool) → List Bool → Type 0
AreProposed tables active candidates =
    (j : ℕ) → j < transition_count tables → is_enabled active (preceding_of tables.sides (of_rank tables j)) ≡ true
    → flag candidates j ≡ true
