-- The tree that the listing of a plant spells (Annex B).
use Rattle.std.specs.Prelude.{ℕ, List, map, Option, Some}
use Rattle.std.specs.Option.{option_map}
use Rattle.sfc_text.specs.declared.tree.Configuration.{Configuration}
use Rattle.sfc_text.specs.declared.tree.Instance as text_instance
use Rattle.sfc_text.specs.declared.tree.Task as text_task
use Rattle.sfc_text.specs.Trees.{ProgramTree, SourceTree}
use Rattle.sfc_base.specs.declared.references.GlobalId.{GlobalId}
use Rattle.sfc_plant.specs.declared.variable.Variable.{Variable}
use Rattle.sfc_plant.specs.VariableNames.{names_of}
use Rattle.sfc_plant.specs.declared.program_type.ProgramType.{ProgramType}
use Rattle.sfc_plant.specs.Spaces.{space_in}
use Rattle.sfc_plant.specs.declared.task.Task.{Task}
use Rattle.sfc_plant.specs.declared.instance.Instance.{Instance}
use Rattle.sfc_plant.specs.Plants.{PlantData}
use Rattle.sfc_plant.specs.Names.{name_at}
use Rattle.sfc_plant.specs.Names.{task_name, type_name}
use Rattle.sfc_read_back.specs.WrittenVariables.{declaration_tree, variable_trees}
use Rattle.sfc_read_back.specs.WrittenCharts.{element_trees}

-- a program type (2.5.3)
abbrev pub program_tree : List Variable → ProgramType → ProgramTree
program_tree globals p = record {
  name = p.name;
  variables = variable_trees globals p.locals p.externals;
  elements = element_trees (space_in globals p) p.chart;
}

-- the name of what starts a task once at each rise
abbrev pub single_tree : List Variable → Option GlobalId → Option (List ℕ)
single_tree globals single = option_map (λ id. name_at (names_of globals) id.0) single

abbrev pub task_tree : List Variable → Task → text_task.Task
task_tree globals t =
    record { name = t.name; single = single_tree globals t.single; interval = t.interval; priority = t.priority }

abbrev pub instance_tree : List Task → List ProgramType → Instance → text_instance.Instance
instance_tree tasks types i =
    record { name = i.name; task = Some (task_name tasks i.task.0); program = type_name types i.program.0 }

-- the configuration with its one resource (2.7.1)
abbrev pub configuration_tree : PlantData → Configuration
configuration_tree plant = record {
  name = plant.configuration;
  resource = plant.resource;
  processor = plant.processor;
  globals = map declaration_tree plant.globals;
  tasks = map (task_tree plant.globals) plant.tasks;
  instances = map (instance_tree plant.tasks plant.types) plant.instances;
}

-- the program types in order, and the configuration
abbrev pub written : PlantData → SourceTree
written plant =
    record { programs = map (program_tree plant.globals) plant.types; configuration = configuration_tree plant }
