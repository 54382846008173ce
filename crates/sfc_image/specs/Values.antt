-- What a variable reads (2.4).
use Rattle.std.specs.Prelude.{ℕ, ◌+◌, ◌==◌, ◌&&◌, nat_le, nat_lt, cond, Bool, false}
use Rattle.std.specs.Prelude.{List, [], ◌∷◌, length, Option, Some, None, slice_get, unwrap_or}
use Rattle.sfc_base.specs.declared.ids.ProgId.{ProgId}
use Rattle.sfc_plant.specs.Plants.{PlantData}
use Rattle.sfc_plant.specs.Image.{image_variables}
use Rattle.sfc_plant.specs.Finding.{first_local, instance_locals}
use Rattle.sfc_base.specs.declared.var_type.VarType.{VarType}
use Rattle.sfc_base.specs.declared.var_type.VarType.TheVariants as types
use Rattle.sfc_plant.specs.declared.variable.Variable.{Variable}
use Rattle.sfc_base.specs.declared.value.Value.{Value}
use Rattle.sfc_base.specs.declared.value.Value.TheVariants as value
use Rattle.sfc_image.specs.Changes.{Change, Stored, Forced, Released, Reset}

-- ---- the variables

abbrev pub variable_count : PlantData → ℕ
variable_count plant = length (image_variables plant)

abbrev pub initial_in : Option Variable → Value
initial_in None = value.Bool false
initial_in (Some variable) = variable.initial

-- what variable i begins with (2.4.2)
abbrev pub initial_of : PlantData → ℕ → Value
initial_of plant i = initial_in (slice_get (image_variables plant) i)

abbrev pub type_in : Option Variable → VarType
type_in None = types.Bool
type_in (Some variable) = variable.var_type

abbrev pub type_of_variable : PlantData → ℕ → VarType
type_of_variable plant i = type_in (slice_get (image_variables plant) i)

-- variable i is a local of the instance (2.4.3)
abbrev pub is_local_of : PlantData → ProgId → ℕ → Bool
is_local_of plant instance i =
    nat_le (first_local plant instance) i
    && nat_lt i (first_local plant instance + length (instance_locals plant instance))

-- ---- their values

-- what the latest write left in variable i; a reset writes the initial values of its instance's locals
abbrev pub latest_write : PlantData → List Change → ℕ → Option Value
latest_write plant [] i = None
latest_write plant (Stored id v ∷ changes) i = cond (id.0 == i) (Some v) (latest_write plant changes i)
latest_write plant (Forced id v ∷ changes) i = latest_write plant changes i
latest_write plant (Released id ∷ changes) i = latest_write plant changes i
latest_write plant (Reset instance ∷ changes) i =
    cond (is_local_of plant instance i) (Some (initial_of plant i)) (latest_write plant changes i)

-- the stored value: the latest one that was written, else the initial value
abbrev pub stored_value : PlantData → List Change → ℕ → Value
stored_value plant changes i = unwrap_or (latest_write plant changes i) (initial_of plant i)

-- the value to which variable i is forced: that of its latest force, if it was not released since
abbrev pub forced_value : List Change → ℕ → Option Value
forced_value [] i = None
forced_value (Stored id v ∷ changes) i = forced_value changes i
forced_value (Forced id v ∷ changes) i = cond (id.0 == i) (Some v) (forced_value changes i)
forced_value (Released id ∷ changes) i = cond (id.0 == i) None (forced_value changes i)
forced_value (Reset instance ∷ changes) i = forced_value changes i

-- what variable i reads: the forced value, if it is forced, else the stored one
abbrev pub value_of : PlantData → List Change → ℕ → Value
value_of plant changes i = unwrap_or (forced_value changes i) (stored_value plant changes i)
