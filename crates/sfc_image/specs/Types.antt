-- Values of the types that variables are declared with (2.4.2, 2.4.3).
use Rattle.std.specs.Prelude.{ℕ, List, All, ℤ, Option, Some, None, IsTrue, ⊤}
use Rattle.sfc_base.specs.declared.ids.ProgId.{ProgId}
use Rattle.sfc_base.specs.declared.var_type.VarType.{VarType}
use Rattle.sfc_base.specs.declared.var_type.VarType.TheVariants as types
use Rattle.sfc_base.specs.Values.{is_in_range}
use Rattle.sfc_plant.specs.declared.variable.Variable as declared
use Rattle.sfc_plant.specs.Plants.{PlantData}
use Rattle.sfc_plant.specs.Image.{image_variables}
use Rattle.sfc_expr.specs.Types.{Declared, IsOf}
use Rattle.sfc_image.specs.Changes.{Change, Stored, Forced, Released, Reset}
use Rattle.sfc_image.specs.Values.{type_of_variable}
use Rattle.sfc_image.specs.Environments.{number_of}

-- each variable begins with a value of its type
abbrev pub BeginsTyped : PlantData → Type 0
BeginsTyped plant = All (λ (variable : declared.Variable). IsOf variable.var_type variable.initial) (image_variables plant)

-- a value that the change gives is of the variable's type
abbrev pub GivesType : PlantData → Change → Type 0
GivesType plant (Stored id v) = IsOf (type_of_variable plant id.0) v
GivesType plant (Forced id v) = IsOf (type_of_variable plant id.0) v
GivesType plant (Released id) = ⊤
GivesType plant (Reset instance) = ⊤

-- each of these times lies in the range of TIME
abbrev pub AreTimes : List ℤ → Type 0
AreTimes times = All (λ t. IsTrue (is_in_range types.Time t)) times

abbrev pub type_at : PlantData → Option ℕ → Option VarType
type_at plant None = None
type_at plant (Some i) = Some (type_of_variable plant i)

-- the variables of the instance's program, each with its type
abbrev pub types_of : PlantData → ProgId → Declared
types_of plant p v = type_at plant (number_of plant p v)
