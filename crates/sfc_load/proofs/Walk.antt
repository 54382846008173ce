-- The whole walk from its parts.
use Rattle.std.proofs.Common.{◌≡◌, List, map, None, sym, ap, ◌∙◌, subst}
use Rattle.sfc_text.specs.declared.tree.Instance as text_instance
use Rattle.sfc_text.specs.Trees.{SourceTree}
use Rattle.sfc_events.specs.declared.load_error.LoadError.{LoadError}
use Rattle.sfc_plant.specs.declared.variable.Variable.{Variable}
use Rattle.sfc_program.specs.sfc_variables.Checks.{Fails}
use Rattle.sfc_program.specs.sfc_variables.Declarations.{globals_check, globals_of}
use Rattle.sfc_program.proofs.of_sfc_variables.Checks.{passes}
use Rattle.sfc_plant.specs.declared.program_type.ProgramType.{ProgramType}
use Rattle.sfc_program.specs.Built.{program_of}
use Rattle.sfc_plant.specs.declared.task.Task.{Task}
use Rattle.sfc_plant.specs.declared.instance.Instance.{Instance}
use Rattle.sfc_plant.specs.Plants.{PlantData}
use Rattle.sfc_plant.specs.Image.{image_of, image_variables}
use Rattle.sfc_load.specs.Loading.{task_names, program_names, tasks_check, programs_check, instances_check, image_check}
use Rattle.sfc_load.specs.Built.{task_of, instance_of, source_check, plant_of}
use Rattle.sfc_plant.specs.declared.declarations.Declarations.{Declarations}
use Rattle.sfc_load.specs.Assembly.Declared.{AreDeclared}

-- what the parts are that were loaded without fault
pub record Walked (s : SourceTree) (globals : List Variable) (tasks : List Task) (types : List ProgramType) (instances : List Instance) : Type 0 where
  pub globals_pass : globals_check s.configuration.globals ≡ None
  pub globals_are : globals ≡ globals_of s.configuration.globals
  pub tasks_pass : tasks_check globals s.configuration.tasks ≡ None
  pub tasks_are : tasks ≡ map (task_of globals) s.configuration.tasks
  pub types_pass : programs_check globals s.programs ≡ None
  pub types_are : types ≡ map (program_of globals) s.programs
  pub instances_pass : instances_check (task_names s.configuration.tasks) (program_names s.programs) s.configuration.instances ≡ None
  pub instances_are : instances ≡ map (instance_of (task_names s.configuration.tasks) (program_names s.programs)) s.configuration.instances

-- from what was declared, and the instances behind it
pub walked_on : (s : SourceTree) (d : Declarations) (written : List text_instance.Instance) (instances : List Instance) → AreDeclared s d
    → written ≡ s.configuration.instances → instances_check d.task_names d.type_names written ≡ None
    → instances ≡ map (instance_of d.task_names d.type_names) written → Walked s d.globals d.tasks d.types instances
walked_on s d written instances a w passes are = record {
  globals_pass = a.globals_pass;
  globals_are = a.globals_are;
  tasks_pass = a.tasks_pass;
  tasks_are = a.tasks_are;
  types_pass = a.types_pass;
  types_are = a.types_are;
  instances_pass = (λ i. instances_check (sym a.task_table i) (sym a.type_table i) (sym w i)) ∙ passes;
  instances_are = are ∙ (λ i. map (instance_of (a.task_table i) (a.type_table i)) (w i));
}

abbrev pub the_plant : SourceTree → List Variable → List Task → List ProgramType → List Instance → PlantData
the_plant s globals tasks types instances = record {
  configuration = s.configuration.name;
  resource = s.configuration.resource;
  processor = s.configuration.processor;
  globals = globals;
  tasks = tasks;
  types = types;
  instances = instances;
}

module _ (s : SourceTree) (globals : List Variable) (tasks : List Task) (types : List ProgramType) (instances : List Instance)
    (w : Walked s globals tasks types instances) where
  all_tasks : tasks ≡ map (task_of (globals_of s.configuration.globals)) s.configuration.tasks
  all_tasks = w.tasks_are ∙ ap (λ g. map (task_of g) s.configuration.tasks) w.globals_are

  all_types : types ≡ map (program_of (globals_of s.configuration.globals)) s.programs
  all_types = w.types_are ∙ ap (λ g. map (program_of g) s.programs) w.globals_are

  pub plant_built : the_plant s globals tasks types instances ≡ plant_of s
  plant_built = λ i. record {
    configuration = s.configuration.name;
    resource = s.configuration.resource;
    processor = s.configuration.processor;
    globals = w.globals_are i;
    tasks = all_tasks i;
    types = all_types i;
    instances = w.instances_are i;
  }

  image_built : image_of globals types instances ≡ image_variables (plant_of s)
  image_built = ap image_variables plant_built

  walked : source_check s ≡ image_check (image_of globals types instances)
  walked =
      passes _ _ w.globals_pass
      ∙ passes _ _ (ap (λ g. tasks_check g s.configuration.tasks) (sym w.globals_are) ∙ w.tasks_pass)
      ∙ passes _ _ (ap (λ g. programs_check g s.programs) (sym w.globals_are) ∙ w.types_pass)
      ∙ passes _ _ w.instances_pass
      ∙ ap image_check (sym image_built)

  pub walk_passes : image_check (image_of globals types instances) ≡ None → source_check s ≡ None
  walk_passes e = walked ∙ e

  pub walk_fails : (f : LoadError) → Fails f (image_check (image_of globals types instances)) → Fails f (source_check s)
  walk_fails f h = subst (Fails f) (sym walked) h
