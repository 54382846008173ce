-- The transitions that a step is the first to precede (2.6.3, 2.6.5).
use Rattle.std.specs.Prelude.{ℕ, List, [], ◌∷◌, map, slice_index_or}
use Rattle.sfc_base.specs.declared.references.StepId.{StepId}
use Rattle.sfc_base.specs.declared.ids.TransitionId.{TransitionId}
use Rattle.sfc_tables.specs.Places.{places_of}
use Rattle.sfc_tables.specs.Tables.{Sides, Tabled, sides_at}

-- the first of these steps
abbrev pub first_of : List StepId → ℕ
first_of [] = 0
first_of (step ∷ steps) = step.0

-- of each of these transitions the first step before it
abbrev pub first_steps : List Sides → List TransitionId → List ℕ
first_steps sides ranked = map (λ tr. first_of (sides_at sides tr).preceding) ranked

-- the first of the steps before the transition at this place in rank order
abbrev pub first_step : Tabled → ℕ → ℕ
first_step tables j = slice_index_or (first_steps tables.sides tables.ranked) j 0

-- the places in rank order of the transitions whose first preceding step is this one
abbrev pub departures : Tabled → ℕ → List ℕ
departures tables s = places_of (first_steps tables.sides tables.ranked) s
