-- Sets of steps as flags.
use Rattle.std.specs.Prelude.{ℕ, ◌==◌, Bool, true, List, [], ◌∷◌, slice_set}
use Rattle.std.specs.List.{list_any}
use Rattle.sfc_base.specs.declared.references.StepId.{StepId}

-- the step is among these
abbrev pub has : List StepId → ℕ → Bool
has steps s = list_any (λ step. step.0 == s) steps

-- the flags with those of these steps set
abbrev pub marked : List StepId → List Bool → List Bool
marked [] flags = flags
marked (step ∷ steps) flags = marked steps (slice_set flags step.0 true)
