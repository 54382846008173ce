-- The variables that a text declares (2.4.3).
use Rattle.std.specs.Prelude.{ℕ, not, List, [], map, flat_map, Option, Some, None}
use Rattle.sfc_base.specs.declared.location.Location.{Location}
use Rattle.sfc_base.specs.declared.var_type.VarType.{VarType}
use Rattle.sfc_text.specs.declared.tree.Declaration.{Declaration}
use Rattle.sfc_text.specs.declared.tree.Literal.{Literal}
use Rattle.sfc_base.specs.declared.value.Value.{Value}
use Rattle.sfc_base.specs.Values.{default_value}
use Rattle.sfc_check.specs.Checking.{checked_literal}
use Rattle.sfc_base.specs.NameLists.{has}
use Rattle.sfc_events.specs.declared.load_error.LoadError.TheVariants as fault
use Rattle.sfc_plant.specs.declared.variable.Variable.{Variable}
use Rattle.sfc_variables.specs.Checks.{Check, ◌then◌, when, typed, checked_or, in_turn}
use Rattle.sfc_variables.specs.Locations.{fits_location}

-- one name, with what its declaration says of it
pub record Declared : Type 0 where
  pub name : List ℕ
  pub location : Option Location
  pub var_type : VarType
  pub initial : Option Literal

abbrev pub declared_as : Declaration → List ℕ → Declared
declared_as d name = record { name = name; location = d.location; var_type = d.var_type; initial = d.initial }

-- the names of one declaration
abbrev pub declared_by : Declaration → List Declared
declared_by d = map (declared_as d) d.names

-- the names of all of them, in text order
abbrev pub declared_in : List Declaration → List Declared
declared_in ds = flat_map declared_by ds

-- ---- one variable

-- an initial value is a literal of the variable's type
abbrev pub initial_check : VarType → Option Literal → Check
initial_check t None = None
initial_check t (Some l) = typed (checked_literal l t)

-- without one it is FALSE, 0 or T#0s
abbrev pub initial_value : VarType → Option Literal → Value
initial_value t None = default_value t
initial_value t (Some l) = checked_or (default_value t) (checked_literal l t)

-- its location has the size of its type, then its initial value is checked
abbrev pub declared_check : Declared → Check
declared_check d = when (not (fits_location d.var_type d.location)) fault.WrongType then initial_check d.var_type d.initial

abbrev pub variable_of : Declared → Variable
variable_of d =
    record { name = d.name; var_type = d.var_type; location = d.location; initial = initial_value d.var_type d.initial }

-- ---- the global variables, those of the configuration and then those of its resource

abbrev pub declared_name : Declared → List ℕ
declared_name d = d.name

-- no name stands twice
abbrev pub global_check : List (List ℕ) → Declared → Check
global_check before d = when (has before d.name) fault.Duplicate then declared_check d

unfoldable pub globals_check : List Declaration → Check
globals_check ds = in_turn declared_name global_check [] (declared_in ds)

abbrev pub globals_of : List Declaration → List Variable
globals_of ds = map variable_of (declared_in ds)
