-- What a name stands for in a plant (2.1.2, 2.4.3, 2.6.2, 2.6.3, 2.7.1, 2.7.2).
use Rattle.std.specs.Prelude.{ℕ, ◌+◌, ◌==◌, List, [], length, map, position, slice_get, take, drop}
use Rattle.std.specs.Prelude.{Option, Some, None, option_map, option_and_then}
use Rattle.sfc_base.specs.NameLists.{place_of}
use Rattle.sfc_plant.specs.VariableNames.{variable_place}
use Rattle.sfc_plant.specs.declared.variable.Variable.{Variable}
use Rattle.sfc_plant.specs.declared.chart.Chart.{Chart}
use Rattle.sfc_plant.specs.declared.program_type.ProgramType.{ProgramType}
use Rattle.sfc_plant.specs.declared.instance.Instance.{Instance}
use Rattle.sfc_base.specs.declared.references.StepId.{StepId}
use Rattle.sfc_base.specs.declared.ids.TransitionId.{TransitionId}
use Rattle.sfc_base.specs.declared.ids.VarId.{VarId}
use Rattle.sfc_base.specs.declared.ids.TaskId.{TaskId}
use Rattle.sfc_base.specs.declared.ids.TypeId.{TypeId}
use Rattle.sfc_base.specs.declared.ids.ProgId.{ProgId}
use Rattle.sfc_plant.specs.Plants.{PlantData}
use Rattle.sfc_plant.specs.ElementNames.{step_place, transition_place}
use Rattle.sfc_plant.specs.Image.{image_of, locals_of}
use Rattle.sfc_plant.specs.ProgramTypes.{type_at, type_of}

-- the global variable with this name
abbrev pub global_named : PlantData → List ℕ → Option VarId
global_named plant name = option_map (λ place. record { 0 = place }) (variable_place plant.globals name)

abbrev pub task_named : PlantData → List ℕ → Option TaskId
task_named plant name = option_map (λ place. record { 0 = place }) (place_of name (map (λ t. t.name) plant.tasks))

abbrev pub instance_named : PlantData → List ℕ → Option ProgId
instance_named plant name = option_map (λ place. record { 0 = place }) (place_of name (map (λ i. i.name) plant.instances))

abbrev pub type_named : PlantData → List ℕ → Option TypeId
type_named plant name = option_map (λ place. record { 0 = place }) (place_of name (map (λ p. p.name) plant.types))

-- how many variables go before the locals of this instance
abbrev pub first_local : PlantData → ProgId → ℕ
first_local plant i = length (image_of plant.globals plant.types (take i.0 plant.instances))

-- the locals of this instance
abbrev pub locals_at : List ProgramType → Option Instance → List Variable
locals_at types (Some i) = locals_of types i
locals_at types None = []

abbrev pub instance_locals : PlantData → ProgId → List Variable
instance_locals plant i = locals_at plant.types (slice_get plant.instances i.0)

abbrev pub chart_in : Option ProgramType → Chart
chart_in None = record { steps = []; transitions = []; actions = [] }
chart_in (Some p) = p.chart

abbrev pub chart_among : List ProgramType → Option Instance → Chart
chart_among types instance = chart_in (type_at types instance)

-- the chart of this instance is that of its program type
abbrev pub chart_of : PlantData → ProgId → Chart
chart_of plant i = chart_in (type_of plant i)

-- the variable of the image that this instance's local of this name is
abbrev pub local_named : PlantData → ProgId → List ℕ → Option VarId
local_named plant i name =
    option_map (λ place. record { 0 = first_local plant i + place }) (variable_place (instance_locals plant i) name)

-- ---- NAME is a global variable, and INST.NAME a local one of a program instance

-- where the first dot stands
abbrev pub first_dot : List ℕ → Option ℕ
first_dot word = position (λ b. b == 46) word

-- INST.NAME, with its dot at this place: the local variable NAME of the program instance INST
abbrev pub local_at_dot : PlantData → List ℕ → ℕ → Option VarId
local_at_dot plant word dot =
    option_and_then (λ i. local_named plant i (drop (dot + 1) word)) (instance_named plant (take dot word))

-- a word with a dot is a local variable, and one without is a global
abbrev pub variable_at_dot : PlantData → List ℕ → Option ℕ → Option VarId
variable_at_dot plant word None = global_named plant word
variable_at_dot plant word (Some dot) = local_at_dot plant word dot

-- the variable of the image with this name
abbrev pub variable_named : PlantData → List ℕ → Option VarId
variable_named plant word = variable_at_dot plant word (first_dot word)

-- ---- in the chart of a program instance

-- the step with this name
abbrev pub step_named : PlantData → ProgId → List ℕ → Option StepId
step_named plant i name = option_map (λ place. record { 0 = place }) (step_place (chart_of plant i) name)

-- the transition with this name
abbrev pub transition_named : PlantData → ProgId → List ℕ → Option TransitionId
transition_named plant i name = option_map (λ place. record { 0 = place }) (transition_place (chart_of plant i) name)
