-- What a body of a program leaves in the variables (2.4.3, 2.6.4.1, 3.3.2).
use Rattle.std.specs.Prelude.{ℕ, List, [], ◌∷◌, ◌++◌, length, map, filter_map, Option, Some, None}
use Rattle.std.specs.List.{range_with_len}
use Rattle.std.specs.Option.{option_map}
use Rattle.sfc_base.specs.declared.value.Value.{Value}
use Rattle.sfc_base.specs.declared.references.Variable.{Variable}
use Rattle.sfc_base.specs.declared.references.Variable.TheVariants.{Global, Local}
use Rattle.sfc_expr.specs.Environment.{Environment}
use Rattle.sfc_base.specs.declared.ids.ProgId.{ProgId}
use Rattle.sfc_plant.specs.Plants.{PlantData}
use Rattle.sfc_plant.specs.Finding.{instance_locals}
use Rattle.sfc_image.specs.Changes.{Change, Stored, Changes, settled, trying}
use Rattle.sfc_image.specs.Environments.{number_of}

abbrev pub global_at : ℕ → Variable
global_at place = Global (record { 0 = place })

abbrev pub local_at : ℕ → Variable
local_at place = Local (record { 0 = place })

-- all variables that the instance's program can name: the globals, and then its locals
abbrev pub variables_of : PlantData → ProgId → List Variable
variables_of plant p =
    map global_at (range_with_len 0 (length plant.globals))
    ++ map local_at (range_with_len 0 (length (instance_locals plant p)))

-- the variable of this number is given a value
abbrev pub stored_to : Value → ℕ → Change
stored_to x number = Stored (record { 0 = number }) x

-- what the statements leave in one of these variables
abbrev pub left_in : PlantData → ProgId → Environment → Variable → Option Change
left_in plant p env v = option_map (stored_to (env.stored_at v)) (number_of plant p v)

-- A body leaves in each variable that its program can name the value that the statements leave there.
abbrev pub left_by : PlantData → ProgId → Environment → List Change
left_by plant p env = filter_map (left_in plant p env) (variables_of plant p)

abbrev pub changes_in : Option Change → List Change
changes_in None = []
changes_in (Some change) = change ∷ []

-- an assignment to a variable of the instance's program; where there is no such variable nothing changes
abbrev pub assignment : PlantData → ProgId → Variable → Value → List Change
assignment plant p v x = changes_in (option_map (stored_to x) (number_of plant p v))

abbrev pub tried_all : List Change → Option (List Change) → List Change → Changes
tried_all changes None committed = settled (changes ++ committed)
tried_all changes (Some tried) committed = trying committed (changes ++ tried)

-- several changes more; an open transaction takes them
abbrev pub with_changes : List Change → Changes → Changes
with_changes changes log = tried_all changes log.tried log.committed
