-- Which associations are by SD or SL, whose on-delay has not the input of the block but what a flip-flop stores.
use Rattle.std.specs.Prelude.{ℕ, ◌≡◌, ◌<◌, Bool, true, false, List, length, slice_index_or}
use Rattle.sfc_base.specs.declared.qualifier.TimedQualifier.TheVariants.{StoredDelayed, StoredLimited}
use Rattle.sfc_plant.specs.declared.association.Qualifier.{Qualifier}
use Rattle.sfc_plant.specs.declared.association.Qualifier.TheVariants.{Timed}
use Rattle.sfc_tables.specs.declared.step_action.StepAction.{StepAction}

abbrev pub is_stored : Qualifier → Bool
is_stored (Timed StoredDelayed time) = true
is_stored (Timed StoredLimited time) = true
is_stored _ = false

-- no action has two of these associations by SD or SL
abbrev pub AreSingle : List StepAction → Type 0
AreSingle xs = (j k : ℕ) (d : StepAction) → j < k → k < length xs
    → (slice_index_or xs j d).action.0 ≡ (slice_index_or xs k d).action.0
    → is_stored (slice_index_or xs j d).qualifier ≡ true → is_stored (slice_index_or xs k d).qualifier ≡ false
