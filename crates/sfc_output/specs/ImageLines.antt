-- The lines of the image (our choice of format).
use Rattle.std.specs.Prelude.{ℕ, List, [], ◌++◌, flat_map, codes, Option, Some, None}
use Rattle.std.specs.List.{range_with_len}
use Rattle.sfc_base.specs.declared.value.Value.{Value}
use Rattle.sfc_base.specs.declared.ids.VarId.{VarId}
use Rattle.sfc_plant.specs.Plants.{PlantData}
use Rattle.sfc_debug.specs.sfc_image.Values.{variable_count, value_of, forced_value}
use Rattle.sfc_debug.specs.sfc_instances.PlantState.{PlantState}
use Rattle.sfc_plant.specs.PlantNames.{image_name}
use Rattle.sfc_page.specs.Values.{line_end, value_text}

abbrev pub forced_text : Option Value → List ℕ
forced_text None = []
forced_text (Some v) = codes " forced"

-- a variable, what it reads, and whether it is forced
unfoldable pub image_line : PlantData → VarId → Value → Option Value → List ℕ
image_line plant id v forced =
    codes "image " ++ image_name plant id ++ codes " " ++ value_text v ++ forced_text forced ++ line_end

-- the line of the variable with this number, where the plant stands so
abbrev pub variable_line : PlantData → PlantState → ℕ → List ℕ
variable_line plant state v = image_line plant (record { 0 = v }) (value_of plant state.changes v) (forced_value state.changes v)

-- a line for each variable of the image
abbrev pub image_lines : PlantData → PlantState → List ℕ
image_lines plant state = flat_map (variable_line plant state) (range_with_len 0 (variable_count plant))
