-- Where the text of a plant spells its tokens: each name in it is one, and each number is in the range of its kind.
use Rattle.std.specs.Prelude.{◌<◌, ◌≤◌, ◌^◌, List, [], All, IsTrue, ⊤, length, unsigned_abs}
use Rattle.sfc_base.specs.declared.location.Location.{Location}
use Rattle.sfc_base.specs.Locations.{AreNumbers}
use Rattle.sfc_base.specs.Names.{IsName}
use Rattle.sfc_base.specs.Durations.{greatest}
use Rattle.sfc_text.specs.Declares.{OfOptional}
use Rattle.sfc_base.specs.declared.references.GlobalId.{GlobalId}
use Rattle.sfc_base.specs.declared.references.StepId.{StepId}
use Rattle.sfc_base.specs.declared.references.Variable.TheVariants.{Global}
use Rattle.sfc_base.specs.declared.references.Variable as expression
use Rattle.sfc_expr.specs.Types.{lies_in_range}
use Rattle.sfc_plant.specs.declared.variable.Variable.{Variable}
use Rattle.sfc_plant.specs.VariableNames.{names_of}
use Rattle.sfc_plant.specs.declared.association.Association.{Association}
use Rattle.sfc_plant.specs.declared.association.Time.{Time}
use Rattle.sfc_plant.specs.declared.association.Time.TheVariants as time
use Rattle.sfc_plant.specs.declared.association.Qualifier.{Qualifier}
use Rattle.sfc_plant.specs.declared.association.Qualifier.TheVariants as qualifier
use Rattle.sfc_plant.specs.declared.action.Action.{Action}
use Rattle.sfc_plant.specs.declared.chart.Step.{Step}
use Rattle.sfc_plant.specs.declared.chart.Transition.{Transition}
use Rattle.sfc_plant.specs.declared.chart.Chart.{Chart}
use Rattle.sfc_plant.specs.declared.program_type.ProgramType.{ProgramType}
use Rattle.sfc_plant.specs.Spaces.{Space, space_in}
use Rattle.sfc_plant.specs.declared.task.Task.{Task}
use Rattle.sfc_plant.specs.declared.instance.Instance.{Instance}
use Rattle.sfc_plant.specs.Plants.{PlantData}
use Rattle.sfc_plant.specs.Names.{name_at, variable_name, step_name, target_name, task_name, type_name}
use Rattle.sfc_read_back.specs.SpelledTexts.{AreNames, AreBodyNames}

-- ---- steps and their action blocks (2.6.2, 2.6.4)

abbrev pub CanSpellTime : Space → Time → Type 0
CanSpellTime space (time.Literal t) = unsigned_abs t ≤ greatest
CanSpellTime space (time.Variable v) = IsName (variable_name space v)

abbrev pub CanSpellQualifier : Space → Qualifier → Type 0
CanSpellQualifier space (qualifier.Timed q t) = CanSpellTime space t
CanSpellQualifier space _ = ⊤

abbrev pub IsVariableName : Space → expression.Variable → Type 0
IsVariableName space v = IsName (variable_name space v)

pub record CanSpellAssociation (space : Space) (a : Association) : Type 0 where
  pub target : IsName (target_name space a.target)
  pub qualifier : CanSpellQualifier space a.qualifier
  pub indicators : All (IsVariableName space) a.indicators

pub record CanSpellStep (space : Space) (s : Step) : Type 0 where
  pub name : IsName s.name
  pub associations : All (CanSpellAssociation space) s.associations

-- ---- transitions and actions (2.6.3, 2.6.4.1)

abbrev pub IsStepName : Space → StepId → Type 0
IsStepName space id = IsName (step_name space id)

pub record CanSpellTransition (space : Space) (t : Transition) : Type 0 where
  pub name : OfOptional IsName t.name
  pub priority : OfOptional (λ n. n < 2 ^ 32) t.priority
  pub preceding : All (IsStepName space) t.preceding
  pub following : All (IsStepName space) t.following
  pub some_preceding : 0 < length t.preceding
  pub some_following : 0 < length t.following
  pub condition : AreNames space [] t.condition

pub record CanSpellAction (space : Space) (a : Action) : Type 0 where
  pub name : IsName a.name
  pub body : AreBodyNames space a.name a.body

pub record CanSpellChart (space : Space) (chart : Chart) : Type 0 where
  pub steps : All (CanSpellStep space) chart.steps
  pub transitions : All (CanSpellTransition space) chart.transitions
  pub actions : All (CanSpellAction space) chart.actions

-- ---- program types (2.5.3)

pub record CanSpellLocation (l : Location) : Type 0 where
  pub count : AreNumbers l.numbers
  pub numbers : All (λ n. n < 2 ^ 32) l.numbers

pub record CanSpellVariable (v : Variable) : Type 0 where
  pub name : IsName v.name
  pub location : OfOptional CanSpellLocation v.location
  pub initial : IsTrue (lies_in_range v.initial)

-- an external among these globals
pub record CanSpellExternal (space : Space) (id : GlobalId) : Type 0 where
  pub is_global : id.0 < length space.globals
  pub name : IsName (variable_name space (Global id))

pub record CanSpellProgram (globals : List Variable) (p : ProgramType) : Type 0 where
  pub name : IsName p.name
  pub locals : All CanSpellVariable p.locals
  pub externals : All (CanSpellExternal (space_in globals p)) p.externals
  pub chart : CanSpellChart (space_in globals p) p.chart

-- ---- the configuration (2.7.1, 2.7.2)

pub record CanSpellTask (globals : List Variable) (t : Task) : Type 0 where
  pub name : IsName t.name
  pub single : OfOptional (λ (id : GlobalId). IsName (name_at (names_of globals) id.0)) t.single
  pub interval : unsigned_abs t.interval ≤ greatest
  pub priority : t.priority < 2 ^ 32

pub record CanSpellInstance (tasks : List Task) (types : List ProgramType) (i : Instance) : Type 0 where
  pub name : IsName i.name
  pub task : IsName (task_name tasks i.task.0)
  pub program : IsName (type_name types i.program.0)

pub record CanSpellPlant (plant : PlantData) : Type 0 where
  pub configuration : IsName plant.configuration
  pub resource : IsName plant.resource
  pub processor : IsName plant.processor
  pub globals : All CanSpellVariable plant.globals
  pub tasks : All (CanSpellTask plant.globals) plant.tasks
  pub types : All (CanSpellProgram plant.globals) plant.types
  pub instances : All (CanSpellInstance plant.tasks plant.types) plant.instances
