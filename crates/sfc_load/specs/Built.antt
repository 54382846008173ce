-- The plant that a text without fault is, and the whole walk: each name that was looked up stands as its number.
use Rattle.std.specs.Prelude.{ℕ, List, map, unwrap_or}
use Rattle.std.specs.Option.{option_map}
use Rattle.sfc_text.specs.declared.tree.Instance as text_instance
use Rattle.sfc_text.specs.declared.tree.Task as text_task
use Rattle.sfc_text.specs.Trees.{SourceTree}
use Rattle.sfc_base.specs.NameLists.{place_of}
use Rattle.sfc_plant.specs.declared.variable.Variable.{Variable}
use Rattle.sfc_program.specs.sfc_variables.Checks.{Check, ◌then◌}
use Rattle.sfc_program.specs.sfc_variables.Declarations.{globals_check, globals_of}
use Rattle.sfc_program.specs.sfc_variables.Own.{global_id}
use Rattle.sfc_program.specs.Built.{program_of}
use Rattle.sfc_plant.specs.declared.task.Task.{Task}
use Rattle.sfc_plant.specs.declared.instance.Instance.{Instance}
use Rattle.sfc_plant.specs.Plants.{PlantData}
use Rattle.sfc_plant.specs.Image.{image_variables}
use Rattle.sfc_load.specs.Loading.{task_names, program_names, task_number, tasks_check, programs_check, instances_check, image_check}

abbrev pub task_of : List Variable → text_task.Task → Task
task_of globals t =
    record { name = t.name; single = option_map (global_id globals) t.single; interval = t.interval; priority = t.priority }

abbrev pub instance_of : List (List ℕ) → List (List ℕ) → text_instance.Instance → Instance
instance_of tasks programs i = record {
  name = i.name;
  task = record { 0 = unwrap_or (task_number tasks i.task) 0 };
  program = record { 0 = unwrap_or (place_of i.program programs) 0 };
}

abbrev pub plant_of : SourceTree → PlantData
plant_of s = record {
  configuration = s.configuration.name;
  resource = s.configuration.resource;
  processor = s.configuration.processor;
  globals = globals_of s.configuration.globals;
  tasks = map (task_of (globals_of s.configuration.globals)) s.configuration.tasks;
  types = map (program_of (globals_of s.configuration.globals)) s.programs;
  instances = map (instance_of (task_names s.configuration.tasks) (program_names s.programs)) s.configuration.instances;
}

-- the global variables, the tasks, the program types, the instances, and then the variables of all
abbrev pub source_check : SourceTree → Check
source_check s =
    globals_check s.configuration.globals
    then tasks_check (globals_of s.configuration.globals) s.configuration.tasks
    then programs_check (globals_of s.configuration.globals) s.programs
    then instances_check (task_names s.configuration.tasks) (program_names s.programs) s.configuration.instances
    then image_check (image_variables (plant_of s))
