-- Names as they were declared (2.1.2), of what stands in a plant as a number.
use Rattle.std.specs.Prelude.{ℕ, List, [], map, slice_index_or}
use Rattle.sfc_base.specs.declared.references.Variable.{Variable}
use Rattle.sfc_base.specs.declared.references.Variable.TheVariants.{Global, Local}
use Rattle.sfc_base.specs.declared.references.StepId.{StepId}
use Rattle.sfc_base.specs.declared.ids.ActionId.{ActionId}
use Rattle.sfc_plant.specs.VariableNames.{names_of}
use Rattle.sfc_plant.specs.Spaces.{Space}
use Rattle.sfc_plant.specs.declared.association.Target.{Target}
use Rattle.sfc_plant.specs.declared.association.Target.TheVariants.{Boolean, Declared}
use Rattle.sfc_plant.specs.declared.instance.Instance.{Instance}
use Rattle.sfc_plant.specs.declared.program_type.ProgramType.{ProgramType}
use Rattle.sfc_plant.specs.declared.task.Task.{Task}

-- the name at a place
abbrev pub name_at : List (List ℕ) → ℕ → List ℕ
name_at names place = slice_index_or names place []

abbrev pub variable_name : Space → Variable → List ℕ
variable_name space (Global id) = name_at (names_of space.globals) id.0
variable_name space (Local id) = name_at (names_of space.locals) id.0

abbrev pub step_name : Space → StepId → List ℕ
step_name space id = name_at space.steps id.0

abbrev pub action_name : Space → ActionId → List ℕ
action_name space id = name_at space.actions id.0

-- a Boolean action has the name of its variable (2.6.4.1)
abbrev pub target_name : Space → Target → List ℕ
target_name space (Declared id) = action_name space id
target_name space (Boolean v) = variable_name space v

-- ---- tasks, instances and program types

abbrev pub task_name : List Task → ℕ → List ℕ
task_name tasks place = name_at (map (λ t. t.name) tasks) place

abbrev pub instance_name : List Instance → ℕ → List ℕ
instance_name instances place = name_at (map (λ i. i.name) instances) place

abbrev pub type_name : List ProgramType → ℕ → List ℕ
type_name types place = name_at (map (λ p. p.name) types) place
