-- Which variables are shown (our choice).
use Rattle.std.specs.Prelude.{ℕ, zero, suc, ◌≡◌, ◌<◌, Bool, true, false, if◌then◌else◌, List, [], ◌∷◌, ◌++◌, length, map}
use Rattle.std.specs.Prelude.{Option, None, Some, Vec, slice_get, ⊤}
use Rattle.std.specs.Global.{Global}
use Rattle.sfc_base.specs.declared.ids.VarId.{VarId}
use Rattle.sfc_base.specs.declared.location.Area.{Area}
use Rattle.sfc_base.specs.declared.location.Area.TheVariants.{Output}
use Rattle.sfc_base.specs.declared.location.Location.{Location}
use Rattle.sfc_output.specs.sfc_image.Values.{variable_count}
use Rattle.sfc_panel.specs.declared.watched.WatchError.{WatchError}
use Rattle.sfc_panel.specs.declared.watched.WatchError.TheVariants.{NoVariable, Memory}
use Rattle.sfc_plant.specs.Finding.{variable_named}
use Rattle.sfc_plant.specs.Image.{image_variables}
use Rattle.sfc_plant.specs.Plants.{PlantData}
use Rattle.sfc_plant.specs.declared.variable.Variable.{Variable}

-- ---- outputs (2.4.1.1)

abbrev pub is_output_area : Area → Bool
is_output_area Output = true
is_output_area _ = false

abbrev pub lies_in_outputs : Option Location → Bool
lies_in_outputs None = false
lies_in_outputs (Some location) = is_output_area location.area

abbrev pub is_output : Option Variable → Bool
is_output None = false
is_output (Some variable) = lies_in_outputs variable.location

-- variable k, where it is an output
abbrev pub output_at : PlantData → ℕ → List VarId
output_at plant k = if is_output (slice_get (image_variables plant) k) then record { 0 = k } ∷ [] else []

-- the outputs among the first n variables, in their order
abbrev pub outputs_to : PlantData → ℕ → List VarId
outputs_to plant zero = []
outputs_to plant (suc n) = outputs_to plant n ++ output_at plant n

-- all outputs, where they are wanted
abbrev pub outputs_if : Bool → PlantData → List VarId
outputs_if true plant = outputs_to plant (variable_count plant)
outputs_if false plant = []

-- ---- names

-- the variable of a name, where there are both
abbrev pub named_at : PlantData → Option (Vec ℕ Global) → Option VarId
named_at plant None = None
named_at plant (Some name) = variable_named plant name.items

-- those of the first n names
abbrev pub named_to : PlantData → List (Vec ℕ Global) → ℕ → List (Option VarId)
named_to plant names zero = []
named_to plant names (suc n) = named_to plant names n ++ named_at plant (slice_get names n) ∷ []

-- what is shown: the outputs, where they are wanted, and then the variables of all names
abbrev pub shown_variables : Bool → PlantData → List (Vec ℕ Global) → List (Option VarId)
shown_variables outputs plant names = map Some (outputs_if outputs plant) ++ named_to plant names (length names)

-- a name is that of no variable
abbrev pub IsUnknown : PlantData → List (Vec ℕ Global) → WatchError → Type 0
IsUnknown plant names (NoVariable k) = (k < length names) × (named_at plant (slice_get names k) ≡ None)
IsUnknown plant names Memory = ⊤
