-- The text of a plant (Annex B): its program types in order, and then the configuration, top down in blocks. It has all
-- that the plant says, references in the spelling of their declarations.
use Rattle.std.specs.Prelude.{◌++◌, ℕ, ℤ, List, [], flat_map, Option, Some, None, slice_get, if◌then◌else◌, codes, pos}
use Rattle.std.specs.Ordering.{int_eq}
use Rattle.std.specs.Fmt.{decimal}
use Rattle.sfc_base.specs.declared.location.Location.{Location}
use Rattle.sfc_base.specs.LocationText.{location_text}
use Rattle.sfc_base.specs.TimeText.{time_text}
use Rattle.sfc_base.specs.declared.references.GlobalId.{GlobalId}
use Rattle.sfc_base.specs.declared.references.Variable.TheVariants.{Global}
use Rattle.sfc_plant.specs.declared.variable.Variable.{Variable}
use Rattle.sfc_plant.specs.VariableNames.{names_of}
use Rattle.sfc_plant.specs.declared.chart.Chart.{Chart}
use Rattle.sfc_plant.specs.declared.program_type.ProgramType.{ProgramType}
use Rattle.sfc_plant.specs.Spaces.{Space, space_in}
use Rattle.sfc_plant.specs.declared.task.Task.{Task}
use Rattle.sfc_plant.specs.declared.instance.Instance.{Instance}
use Rattle.sfc_plant.specs.Plants.{PlantData}
use Rattle.sfc_list.specs.Layout.{line, block}
use Rattle.sfc_list.specs.Values.{type_text, literal_text}
use Rattle.sfc_plant.specs.Names.{name_at, variable_name, task_name, type_name}
use Rattle.sfc_list.specs.Charts.{step_text, transition_text, action_text}

-- ---- variables (2.4.3)

abbrev pub at_text : Option Location → List ℕ
at_text None = []
at_text (Some l) = codes " AT " ++ location_text l

-- each with the value that it begins with
abbrev pub variable_text : Variable → List ℕ
variable_text v =
    v.name ++ at_text v.location ++ codes " : " ++ type_text v.var_type ++ codes " := " ++ literal_text v.initial
    ++ codes ";"

-- the type of the global that an external is
abbrev pub external_type : Option Variable → List ℕ
external_type None = []
external_type (Some v) = type_text v.var_type

-- an external has the name of the global that it is
abbrev pub external_text : Space → GlobalId → List ℕ
external_text space id =
    variable_name space (Global id) ++ codes " : " ++ external_type (slice_get space.globals id.0) ++ codes ";"

-- ---- program types (2.5.3)

abbrev pub program_head : ProgramType → List ℕ
program_head p = codes "PROGRAM " ++ p.name

-- steps, then transitions, then actions
abbrev pub chart_text : Space → Chart → List ℕ
chart_text space chart =
    flat_map (step_text space) chart.steps ++ flat_map (transition_text space) chart.transitions
    ++ flat_map (action_text space) chart.actions

abbrev pub program_text : List Variable → ProgramType → List ℕ
program_text globals p =
    line 0 (program_head p)
    ++ block 1 (codes "VAR") variable_text p.locals
    ++ block 1 (codes "VAR_EXTERNAL") (external_text (space_in globals p)) p.externals
    ++ chart_text (space_in globals p) p.chart
    ++ line 0 (codes "END_PROGRAM")

-- ---- the configuration (2.7.1, 2.7.2)

abbrev pub single_text : List Variable → Option GlobalId → List ℕ
single_text globals None = []
single_text globals (Some id) = codes "SINGLE := " ++ name_at (names_of globals) id.0 ++ codes ", "

-- an interval of 0 is none
abbrev pub interval_text : ℤ → List ℕ
interval_text t = if int_eq t (pos 0) then [] else codes "INTERVAL := " ++ time_text t ++ codes ", "

abbrev pub task_text : List Variable → Task → List ℕ
task_text globals t =
    codes "TASK " ++ t.name ++ codes "(" ++ single_text globals t.single ++ interval_text t.interval
    ++ codes "PRIORITY := " ++ decimal t.priority ++ codes ");"

abbrev pub instance_text : List Task → List ProgramType → Instance → List ℕ
instance_text tasks types i =
    codes "PROGRAM " ++ i.name ++ codes " WITH " ++ task_name tasks i.task.0 ++ codes " : " ++ type_name types i.program.0
    ++ codes ";"

abbrev pub configuration_head : PlantData → List ℕ
configuration_head plant = codes "CONFIGURATION " ++ plant.configuration

abbrev pub resource_head : PlantData → List ℕ
resource_head plant = codes "RESOURCE " ++ plant.resource ++ codes " ON " ++ plant.processor

abbrev pub configuration_text : PlantData → List ℕ
configuration_text plant =
    line 0 (configuration_head plant)
    ++ line 1 (resource_head plant)
    ++ block 2 (codes "VAR_GLOBAL") variable_text plant.globals
    ++ flat_map (λ t. line 2 (task_text plant.globals t)) plant.tasks
    ++ flat_map (λ i. line 2 (instance_text plant.tasks plant.types i)) plant.instances
    ++ line 1 (codes "END_RESOURCE")
    ++ line 0 (codes "END_CONFIGURATION")

-- ---- the whole

abbrev pub listing : PlantData → List ℕ
listing plant = flat_map (program_text plant.globals) plant.types ++ configuration_text plant
