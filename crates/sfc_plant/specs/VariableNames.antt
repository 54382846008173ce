-- What a name among variables stands for (2.4.3).
use Rattle.std.specs.Prelude.{ℕ, List, map, Option, Some, None, slice_get}
use Rattle.sfc_base.specs.declared.var_type.VarType.{VarType}
use Rattle.sfc_base.specs.declared.references.Variable as expr
use Rattle.sfc_base.specs.declared.references.Variable.TheVariants.{Global, Local}
use Rattle.sfc_base.specs.NameLists.{place_of}
use Rattle.sfc_plant.specs.declared.variable.Variable.{Variable}

abbrev pub names_of : List Variable → List (List ℕ)
names_of vs = map (λ v. v.name) vs

-- the place of the variable with this name
abbrev pub variable_place : List Variable → List ℕ → Option ℕ
variable_place vs name = place_of name (names_of vs)

-- a place with the type of the variable there
abbrev pub with_type : (ℕ → expr.Variable) → ℕ → Option Variable → Option (expr.Variable × VarType)
with_type id place (Some v) = Some (id place, v.var_type)
with_type id place None = None

abbrev pub typed_at : (ℕ → expr.Variable) → List Variable → Option ℕ → Option (expr.Variable × VarType)
typed_at id vs (Some place) = with_type id place (slice_get vs place)
typed_at id vs None = None

-- the first, where there is one, else the second
abbrev pub or_else : {A : Type 0} → Option A → Option A → Option A
or_else (Some x) other = Some x
or_else None other = other

abbrev pub global_named : List Variable → List ℕ → Option (expr.Variable × VarType)
global_named globals name = typed_at (λ place. Global (record { 0 = place })) globals (variable_place globals name)

abbrev pub local_named : List Variable → List ℕ → Option (expr.Variable × VarType)
local_named locals name = typed_at (λ place. Local (record { 0 = place })) locals (variable_place locals name)

-- A local hides a global of its name. An external is the global that it names, so it is found among these.
abbrev pub variable_named : List Variable → List Variable → List ℕ → Option (expr.Variable × VarType)
variable_named locals globals name = or_else (local_named locals name) (global_named globals name)
