-- What later answers need of what was done with an image.
use Rattle.std.specs.Prelude.{ℕ, List, map, Option}
use Rattle.std.specs.List.{range_with_len}
use Rattle.sfc_plant.specs.Plants.{PlantData}
use Rattle.sfc_base.specs.declared.value.Value.{Value}
use Rattle.sfc_image.specs.declared.image.Image.{Image}
use Rattle.sfc_image.specs.Changes.{Change}
use Rattle.sfc_image.specs.Values.{variable_count, stored_value, forced_value}
use Rattle.sfc_image.specs.Private.Keeping.{slot_at}

-- of a variable: the stored value, and the value to which it is forced, if it is
pub record VariablePast : Type 0 where
  pub stored : Value
  pub forced : Option Value

abbrev pub variable_past : PlantData → List Change → ℕ → VariablePast
variable_past plant changes i = record { stored = stored_value plant changes i; forced = forced_value changes i }

-- of each variable, by number; where no transaction is open nothing else is needed
abbrev pub image_past : PlantData → List Change → List VariablePast
image_past plant changes = map (variable_past plant changes) (range_with_len 0 (variable_count plant))

-- ---- the past that an image keeps

abbrev pub variable_in : Image → ℕ → VariablePast
variable_in image i = let slot = slot_at image.slots.items i in record { stored = slot.stored; forced = slot.forced }

unfoldable pub past_in : PlantData → Image → List VariablePast
past_in plant image = map (variable_in image) (range_with_len 0 (variable_count plant))
