-- Where the faults are that stand.
use Rattle.std.specs.Prelude.{ℕ, ◌≡◌, is_some}
use Rattle.sfc_instances.specs.PlantState.{PlantState}

-- of each instance a place stands exactly where a fault does
abbrev pub ArePlaced : PlantState → Type 0
ArePlaced state = (k : ℕ) → is_some (state.instance_state k).place ≡ is_some (state.instance_state k).fault
