-- What each call answers.
use Rattle.std.specs.Prelude.{◌≡◌, nat_lt, cond, Bool, List, Option, Some, None, Result, Ok, Err}
use Rattle.sfc_base.specs.declared.ids.VarId.{VarId}
use Rattle.sfc_plant.specs.Plants.{PlantData}
use Rattle.sfc_base.specs.declared.value.Value.{Value}
use Rattle.sfc_base.specs.Values.{type_of}
use Rattle.sfc_base.specs.Values.{is_same_type}
use Rattle.sfc_image.specs.declared.image_error.ImageError.{ImageError}
use Rattle.sfc_image.specs.declared.image_error.ImageError.TheVariants.{UnknownVar, ValueType, NotForced}
use Rattle.sfc_image.specs.Changes.{Change}
use Rattle.sfc_image.specs.Values.{variable_count, type_of_variable, forced_value, value_of}

-- there is a variable of this number
abbrev pub is_variable : PlantData → VarId → Bool
is_variable plant id = nat_lt id.0 (variable_count plant)

-- a read: the value, or that there is no such variable
abbrev pub read_answer : PlantData → List Change → VarId → Result Value ImageError
read_answer plant changes id = cond (is_variable plant id) (Ok (value_of plant changes id.0)) (Err UnknownVar)

-- the call succeeds exactly where there is no fault, and else answers the fault
abbrev pub Answers : {A : Type 0} → Result A ImageError → Option ImageError → Type 0
Answers (Ok x) fault = fault ≡ None
Answers (Err e) fault = fault ≡ Some e

-- what is wrong with giving the variable this value, by a store or a force
abbrev pub value_fault : PlantData → VarId → Value → Option ImageError
value_fault plant id v =
    cond (is_variable plant id)
    (cond (is_same_type (type_of v) (type_of_variable plant id.0)) None (Some ValueType))
    (Some UnknownVar)

abbrev pub not_forced : Option Value → Option ImageError
not_forced None = Some NotForced
not_forced (Some v) = None

-- what is wrong with releasing the variable
abbrev pub release_fault : PlantData → List Change → VarId → Option ImageError
release_fault plant changes id = cond (is_variable plant id) (not_forced (forced_value changes id.0)) (Some UnknownVar)
