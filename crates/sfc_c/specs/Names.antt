-- What has a name: how many there are of a kind, the name of each, and the number of a name (our choice).
use Rattle.std.specs.Prelude.{◌≡◌, ℕ, ◌==◌, nat_lt, Bool, true, false, cond, if◌then◌else◌, List, [], ◌∷◌, length}
use Rattle.std.specs.Prelude.{slice_get, ◌<◌, MatchBool, ◌⊎◌}
use Rattle.std.specs.Prelude.{ℤ, Option, Some, None, option_map, Result, Ok, Err}
use Rattle.sfc_base.specs.declared.ids.ProgId.{ProgId}
use Rattle.sfc_base.specs.declared.ids.VarId.{VarId}
use Rattle.sfc_base.specs.declared.location.Location.{Location}
use Rattle.sfc_tokens.specs.Lexemes.{Tokens}
use Rattle.sfc_tokens.specs.Texts.{TextLexes}
use Rattle.sfc_tokens.specs.declared.token.TokenKind.{TokenKind}
use Rattle.sfc_tokens.specs.declared.token.TokenKind.TheVariants as token
use Rattle.sfc_plant.specs.declared.chart.Transition.{Transition}
use Rattle.sfc_plant.specs.declared.variable.Variable.{Variable}
use Rattle.sfc_plant.specs.Finding.{chart_of, variable_named, step_named, transition_named}
use Rattle.sfc_plant.specs.InstanceSpaces.{space_of}
use Rattle.sfc_plant.specs.Names.{step_name}
use Rattle.sfc_plant.specs.Plants.{PlantData}
use Rattle.sfc_replay.specs.sfc_tables.Tables.{Tabled, tables_of}
use Rattle.sfc_replay.specs.sfc_image.Values.{variable_count}
use Rattle.sfc_replay.specs.sfc_script.sfc_variables.Locations.{same_location}
use Rattle.sfc_replay.specs.sfc_script.Points.{find_action}
use Rattle.sfc_plant.specs.PlantNames.{task_name, instance_name, image_name}
use Rattle.sfc_replay.specs.sfc_tables.ActionNames.{numbered_action}
use Rattle.sfc_c.specs.declared.kind.Kind.{Kind}
use Rattle.sfc_c.specs.declared.kind.Kind.TheVariants as kinds
use Rattle.sfc_plant.specs.Image.{image_variables}
use Rattle.sfc_c.specs.Codes.{unknown, no_memory}
use Rattle.sfc_c.specs.Found.{number_of_variable}

-- by its number
abbrev pub kind_of : ℕ → Option Kind
kind_of n =
    if n == 0 then Some kinds.Step else
    if n == 1 then Some kinds.Transition else
    if n == 2 then Some kinds.Action else
    if n == 3 then Some kinds.Variable else
    if n == 4 then Some kinds.Task else
    if n == 5 then Some kinds.Program else None

-- ---- how many there are

-- the points of a chart
abbrev pub point_count : Tabled → Kind → ℕ
point_count tables kinds.Step = length tables.initial
point_count tables kinds.Transition = length tables.sides
point_count tables _ = length tables.actions

-- those of a program instance's chart, where the instance is there
abbrev pub points_of : PlantData → ProgId → Kind → Option ℕ
points_of plant p kind = cond (nat_lt p.0 (length plant.instances)) (Some (point_count (tables_of (chart_of plant p)) kind)) None

-- of a kind
abbrev pub count_of : PlantData → ProgId → Kind → Option ℕ
count_of plant p kinds.Variable = Some (variable_count plant)
count_of plant p kinds.Task = Some (length plant.tasks)
count_of plant p kinds.Program = Some (length plant.instances)
count_of plant p kind = points_of plant p kind

-- of a kind that is one
abbrev pub count_in : PlantData → ProgId → Option Kind → Option ℕ
count_in plant p None = None
count_in plant p (Some kind) = count_of plant p kind

-- ---- names

-- nothing where there is no name
abbrev pub name_or_nothing : Option (List ℕ) → List ℕ
name_or_nothing None = []
name_or_nothing (Some name) = name

-- that of a transition, where there is one
abbrev pub transition_name : Option Transition → List ℕ
transition_name None = []
transition_name (Some transition) = name_or_nothing transition.name

-- that of transition n of a program instance's chart; nothing where it has none
abbrev pub transition_name_of : PlantData → ProgId → ℕ → List ℕ
transition_name_of plant p n = transition_name (slice_get (chart_of plant p).transitions n)

-- that of point n of a program instance's chart
abbrev pub point_name : PlantData → ProgId → Kind → ℕ → List ℕ
point_name plant p kinds.Step n = step_name (space_of plant p) (record { 0 = n })
point_name plant p kinds.Transition n = transition_name_of plant p n
point_name plant p _ n = numbered_action (space_of plant p) (tables_of (chart_of plant p)) n

-- the name of number n of a kind: of a local variable INST.NAME
abbrev pub name_of : PlantData → ProgId → Kind → ℕ → List ℕ
name_of plant p kinds.Variable n = image_name plant (record { 0 = n })
name_of plant p kinds.Task n = task_name plant (record { 0 = n })
name_of plant p kinds.Program n = instance_name plant (record { 0 = n })
name_of plant p kind n = point_name plant p kind n

-- there are more than n
abbrev pub has : Option ℕ → ℕ → Bool
has None n = false
has (Some count) n = nat_lt n count

-- the name, where there is one of this number; -3 where there is none
abbrev pub named : PlantData → ProgId → Option Kind → ℕ → Result (List ℕ) ℤ
named plant p None n = Err unknown
named plant p (Some kind) n = cond (has (count_of plant p kind) n) (Ok (name_of plant p kind n)) (Err unknown)

-- ---- numbers by names

-- it is this location, where it is one
abbrev pub is_location : Location → Option Location → Bool
is_location location None = false
is_location location (Some own) = same_location own location

-- the variable lies there, where there is one
abbrev pub is_at : Location → Option Variable → Bool
is_at location None = false
is_at location (Some variable) = is_location location variable.location

-- variable k lies there
abbrev pub lies_at : PlantData → Location → ℕ → Bool
lies_at plant location k = is_at location (slice_get (image_variables plant) k)

-- a variable that lies there (2.4.1.1), if one does
abbrev pub IsAt : PlantData → Location → Option VarId → Type 0
IsAt plant location None = (k : ℕ) → k < variable_count plant → lies_at plant location k ≡ false
IsAt plant location (Some id) = lies_at plant location id.0 ≡ true

-- the number of a variable by a token that is its location; -3 where the token is no location
abbrev pub IsToken : PlantData → TokenKind → ℤ → Type 0
IsToken plant (token.Location location) result =
    (found : Option VarId) × IsAt plant location found × (result ≡ number_of_variable found)
IsToken plant _ result = result ≡ unknown

-- by the tokens of a text
abbrev pub IsLocated : PlantData → Tokens → ℤ → Type 0
IsLocated plant (Ok (kind ∷ [])) result = IsToken plant kind result
IsLocated plant _ result = result ≡ unknown

-- a location begins with %
abbrev pub begins_location : List ℕ → Bool
begins_location [] = false
begins_location (b ∷ bytes) = b == 37

-- the number of a variable by its location, unless memory was refused
abbrev pub LocationFinds : PlantData → List ℕ → ℤ → Type 0
LocationFinds plant text result =
    ((outcome : Tokens) × TextLexes text outcome × IsLocated plant outcome result) ⊎ (result ≡ no_memory)

-- by its location, or by its name
abbrev pub VariableFinds : PlantData → List ℕ → ℤ → Type 0
VariableFinds plant text result =
    MatchBool (begins_location text) (LocationFinds plant text result) (result ≡ number_of_variable (variable_named plant text))

-- the place of a point in the program instance's chart
abbrev pub point_called : PlantData → ProgId → Kind → List ℕ → Option ℕ
point_called plant p kinds.Step name = option_map (λ step. step.0) (step_named plant p name)
point_called plant p kinds.Transition name = option_map (λ transition. transition.0) (transition_named plant p name)
point_called plant p kinds.Action name = option_map (λ action. action.0) (find_action plant p name)
point_called plant p kind name = None

abbrev pub point_named : PlantData → ProgId → Option Kind → List ℕ → Option ℕ
point_named plant p None name = None
point_named plant p (Some kind) name = point_called plant p kind name
