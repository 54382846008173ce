-- What a listing spells of a plant is loaded as that plant again.
use Rattle.std.proofs.Common.{◌≡◌, ℕ, nat_lt, false, List, [], length, map, All, Option, None, Some, is_none, unwrap_or, refl, ap, ◌∙◌}
use Rattle.std.specs.Option.{option_map}
use Rattle.std.proofs.lemmas.List.{length-map}
use Rattle.std.proofs.lemmas.List.Elements.{All-map, All-weaker}
use Rattle.std.proofs.lemmas.Simd.{map-map}
use Rattle.sfc_base.specs.declared.limits.TheConstants.{INSTANCES, TASKS}
use Rattle.sfc_base.specs.declared.var_type.VarType.TheVariants as types
use Rattle.sfc_text.specs.declared.tree.Instance as text_instance
use Rattle.sfc_text.specs.declared.tree.Task as text_task
use Rattle.sfc_text.specs.Trees.{ProgramTree, SourceTree}
use Rattle.sfc_base.specs.declared.references.GlobalId.{GlobalId}
use Rattle.sfc_base.specs.declared.references.Variable.TheVariants.{Global}
use Rattle.sfc_base.specs.NameLists.{place_of}
use Rattle.sfc_events.specs.declared.load_error.LoadError.TheVariants as fault
use Rattle.sfc_events.specs.declared.load_error.Limit.TheVariants as limit
use Rattle.sfc_plant.specs.declared.variable.Variable.{Variable}
use Rattle.sfc_load.specs.sfc_variables.Checks.{Check, ◌then◌, when}
use Rattle.sfc_load.specs.sfc_variables.Declarations.{globals_check, globals_of}
use Rattle.sfc_plant.specs.VariableNames.{names_of, typed_at, variable_place}
use Rattle.sfc_load.specs.sfc_variables.Own.{global_id}
use Rattle.sfc_plant.specs.declared.program_type.ProgramType.{ProgramType}
use Rattle.sfc_load.specs.sfc_program.Built.{program_of}
use Rattle.sfc_load.specs.sfc_program.Loading.{variable_check, distinct_check, program_check}
use Rattle.sfc_load.proofs.of_sfc_program.Soundness.{then_first, then_second, when_none}
use Rattle.sfc_plant.specs.declared.task.Task.{Task}
use Rattle.sfc_base.specs.declared.ids.TaskId.{TaskId}
use Rattle.sfc_base.specs.declared.ids.TypeId.{TypeId}
use Rattle.sfc_plant.specs.declared.instance.Instance.{Instance}
use Rattle.sfc_plant.specs.Plants.{PlantData}
use Rattle.sfc_plant.specs.Image.{image_variables}
use Rattle.sfc_load.specs.Loading.{single_check, interval_check, task_name, tasks_check, program_name, programs_check, instance_name, task_number, instances_check, image_check, task_names, program_names}
use Rattle.sfc_load.specs.Built.{task_of, instance_of, source_check, plant_of}
use Rattle.sfc_plant.specs.Names.{name_at}
use Rattle.sfc_read_back.specs.WrittenVariables.{declaration_tree}
use Rattle.sfc_read_back.specs.Written.{program_tree, single_tree, task_tree, instance_tree, written}
use Rattle.sfc_read_back.proofs.WrittenNames.{place_again}
use Rattle.sfc_read_back.proofs.WrittenLists.{both_pass, kept_again, names_pass, kinds_pass, named_pass}
use Rattle.sfc_read_back.proofs.WrittenVariables.{globals_back, globals_pass}
use Rattle.sfc_read_back.proofs.WrittenPrograms.{IsProgramBack, program_back}

-- a name that was found, and the name at its place
place_kept : (name : List ℕ) (names : List (List ℕ)) → is_none (place_of name names) ≡ false
    → place_of (name_at names (unwrap_or (place_of name names) 0)) names ≡ place_of name names
place_kept name names e = at (place_of name names) refl e where
  at : (place : Option ℕ) → place_of name names ≡ place → is_none place ≡ false → place_of (name_at names (unwrap_or place 0)) names ≡ place
  at (Some i) is e = place_again name names i is
  at None is e = cc

-- ---- tasks

module _ (globals : List Variable) where
  pub record IsSingleBack (single : Option GlobalId) : Type 0 where
    pub checks : single_check globals (single_tree globals single) ≡ None
    pub built : option_map (global_id globals) (single_tree globals single) ≡ single

  some_place : (place : Option ℕ)
      → variable_check types.Bool fault.Unknown fault.NotBool (typed_at (λ i. Global (record { 0 = i })) globals place) ≡ None
      → is_none place ≡ false
  some_place (Some i) e = refl
  some_place None e = cc

  single_back : (single : Option (List ℕ)) → single_check globals single ≡ None → IsSingleBack (option_map (global_id globals) single)
  single_back None e = record { checks = refl; built = refl }
  single_back (Some name) e =
      let kept = place_kept name (names_of globals) (some_place (variable_place globals name) e) in
      record {
        checks = ap (λ p. variable_check types.Bool fault.Unknown fault.NotBool (typed_at (λ i. Global (record { 0 = i })) globals p))
            kept ∙ e;
        built = ap (λ p. let id : GlobalId = record { 0 = unwrap_or p 0 } in Some id) kept;
      }

  -- what is checked of a task beside its name
  abbrev task_kind : text_task.Task → Check
  task_kind t = single_check globals t.single then interval_check t.interval

  pub record IsTaskBack (t : Task) : Type 0 where
    pub checks : task_kind (task_tree globals t) ≡ None
    pub built : task_of globals (task_tree globals t) ≡ t

  task_back : (t : text_task.Task) → task_kind t ≡ None → IsTaskBack (task_of globals t)
  task_back t e =
      let s = single_back t.single (then_first (single_check globals t.single) _ e) in
      record {
        checks = both_pass (single_check globals (single_tree globals (option_map (global_id globals) t.single))) _ s.checks
            (then_second (single_check globals t.single) _ e);
        built = λ i. record { name = t.name; single = s.built i; interval = t.interval; priority = t.priority };
      }

  tasks_all : (tasks : List text_task.Task) → tasks_check globals tasks ≡ None → All IsTaskBack (map (task_of globals) tasks)
  unfolding tasks_check
  tasks_all tasks e =
      All-map IsTaskBack (task_of globals) tasks
      (All-weaker (λ t. task_kind t ≡ None) (λ t. IsTaskBack (task_of globals t)) task_back tasks
      (kinds_pass task_name task_kind [] tasks (then_second (when (nat_lt TASKS (length tasks)) (fault.Limit limit.Tasks)) _ e)))

  -- the names of what is spelled of tasks
  tasks_named : (tasks : List text_task.Task) → task_names (map (task_tree globals) (map (task_of globals) tasks)) ≡ task_names tasks
  tasks_named tasks = map-map task_name (task_tree globals) (map (task_of globals) tasks) ∙ map-map (λ t. t.name) (task_of globals) tasks

  tasks_pass : (tasks : List text_task.Task) → tasks_check globals tasks ≡ None
      → tasks_check globals (map (task_tree globals) (map (task_of globals) tasks)) ≡ None
  unfolding tasks_check
  tasks_pass tasks e =
      let made : List Task = map (task_of globals) tasks in
      let few = when (nat_lt TASKS (length tasks)) (fault.Limit limit.Tasks) in
      let n : length (map (task_tree globals) made) ≡ length tasks = length-map made (task_tree globals)
      ∙ length-map tasks (task_of globals) in
      both_pass (when (nat_lt TASKS (length (map (task_tree globals) made))) (fault.Limit limit.Tasks)) _
      (ap (λ k. when (nat_lt TASKS k) (fault.Limit limit.Tasks)) n ∙ then_first few _ e)
      (named_pass task_name task_kind [] (map (task_tree globals) made)
      (ap (distinct_check []) (tasks_named tasks) ∙ names_pass task_name task_kind [] tasks (then_second few _ e))
      (All-map (λ t. task_kind t ≡ None) (task_tree globals) made
      (All-weaker IsTaskBack (λ t. task_kind (task_tree globals t) ≡ None) (λ t b. b.checks) made (tasks_all tasks e))))

  tasks_kept : (tasks : List text_task.Task) → tasks_check globals tasks ≡ None
      → map (task_of globals) (map (task_tree globals) (map (task_of globals) tasks)) ≡ map (task_of globals) tasks
  tasks_kept tasks e =
      kept_again (task_tree globals) (task_of globals) (map (task_of globals) tasks)
      (All-weaker IsTaskBack (λ t. task_of globals (task_tree globals t) ≡ t) (λ t b. b.built) (map (task_of globals) tasks)
      (tasks_all tasks e))

  -- ---- program types

  programs_all : (programs : List ProgramTree) → programs_check globals programs ≡ None
      → All (IsProgramBack globals) (map (program_of globals) programs)
  unfolding programs_check
  programs_all programs e =
      All-map (IsProgramBack globals) (program_of globals) programs
      (All-weaker (λ p. program_check globals p ≡ None) (λ p. IsProgramBack globals (program_of globals p)) (program_back globals) programs
      (kinds_pass program_name (program_check globals) [] programs e))

  programs_named : (programs : List ProgramTree)
      → program_names (map (program_tree globals) (map (program_of globals) programs)) ≡ program_names programs
  programs_named programs =
      map-map program_name (program_tree globals) (map (program_of globals) programs) ∙ map-map (λ p. p.name) (program_of globals) programs

  programs_pass : (programs : List ProgramTree) → programs_check globals programs ≡ None
      → programs_check globals (map (program_tree globals) (map (program_of globals) programs)) ≡ None
  unfolding programs_check
  programs_pass programs e =
      let made : List ProgramType = map (program_of globals) programs in
      named_pass program_name (program_check globals) [] (map (program_tree globals) made)
      (ap (distinct_check []) (programs_named programs) ∙ names_pass program_name (program_check globals) [] programs e)
      (All-map (λ p. program_check globals p ≡ None) (program_tree globals) made
      (All-weaker (IsProgramBack globals) (λ p. program_check globals (program_tree globals p) ≡ None) (λ p b. b.checks) made
      (programs_all programs e)))

  programs_kept : (programs : List ProgramTree) → programs_check globals programs ≡ None
      → map (program_of globals) (map (program_tree globals) (map (program_of globals) programs)) ≡ map (program_of globals) programs
  programs_kept programs e =
      kept_again (program_tree globals) (program_of globals) (map (program_of globals) programs)
      (All-weaker (IsProgramBack globals) (λ p. program_of globals (program_tree globals p) ≡ p) (λ p b. b.built)
      (map (program_of globals) programs) (programs_all programs e))

-- ---- instances

-- by the names of the tasks and of the program types
abbrev instance_again : List (List ℕ) → List (List ℕ) → Instance → text_instance.Instance
instance_again tasks programs i =
    record { name = i.name; task = Some (name_at tasks i.task.0); program = name_at programs i.program.0 }

module _ (tasks programs : List (List ℕ)) where
  -- what is checked of an instance beside its name
  abbrev instance_kind : text_instance.Instance → Check
  instance_kind i =
      when (is_none (task_number tasks i.task)) fault.NoTask then when (is_none (place_of i.program programs)) fault.UnknownType

  pub record IsInstanceBack (i : Instance) : Type 0 where
    pub checks : instance_kind (instance_again tasks programs i) ≡ None
    pub built : instance_of tasks programs (instance_again tasks programs i) ≡ i

  task_kept : (task : Option (List ℕ)) → is_none (task_number tasks task) ≡ false
      → place_of (name_at tasks (unwrap_or (task_number tasks task) 0)) tasks ≡ task_number tasks task
  task_kept (Some name) e = place_kept name tasks e
  task_kept None e = cc

  instance_back : (i : text_instance.Instance) → instance_kind i ≡ None → IsInstanceBack (instance_of tasks programs i)
  instance_back i e =
      let has_task = when (is_none (task_number tasks i.task)) fault.NoTask in
      let t = task_kept i.task (when_none (is_none (task_number tasks i.task)) fault.NoTask (then_first has_task _ e)) in
      let p = place_kept i.program programs
      (when_none (is_none (place_of i.program programs)) fault.UnknownType (then_second has_task _ e)) in
      record {
        checks = (λ k. when (is_none (t k)) fault.NoTask then when (is_none (p k)) fault.UnknownType) ∙ e;
        built = λ k. record {
          name = i.name;
          task = let id : TaskId = record { 0 = unwrap_or (t k) 0 } in id;
          program = let id : TypeId = record { 0 = unwrap_or (p k) 0 } in id;
        };
      }

  instances_all : (instances : List text_instance.Instance) → instances_check tasks programs instances ≡ None
      → All IsInstanceBack (map (instance_of tasks programs) instances)
  unfolding instances_check
  instances_all instances e =
      All-map IsInstanceBack (instance_of tasks programs) instances
      (All-weaker (λ i. instance_kind i ≡ None) (λ i. IsInstanceBack (instance_of tasks programs i)) instance_back instances
      (kinds_pass instance_name instance_kind [] instances
      (then_second (when (nat_lt INSTANCES (length instances)) (fault.Limit limit.Instances)) _ e)))

  instances_pass : (instances : List text_instance.Instance) → instances_check tasks programs instances ≡ None
      → instances_check tasks programs (map (instance_again tasks programs) (map (instance_of tasks programs) instances)) ≡ None
  unfolding instances_check
  instances_pass instances e =
      let made : List Instance = map (instance_of tasks programs) instances in
      let few = when (nat_lt INSTANCES (length instances)) (fault.Limit limit.Instances) in
      let n : length (map (instance_again tasks programs) made) ≡ length instances =
      length-map made (instance_again tasks programs) ∙ length-map instances (instance_of tasks programs) in
      let named : map instance_name (map (instance_again tasks programs) made) ≡ map instance_name instances =
      map-map instance_name (instance_again tasks programs) made ∙ map-map (λ i. i.name) (instance_of tasks programs) instances in
      both_pass (when (nat_lt INSTANCES (length (map (instance_again tasks programs) made))) (fault.Limit limit.Instances)) _
      (ap (λ k. when (nat_lt INSTANCES k) (fault.Limit limit.Instances)) n ∙ then_first few _ e)
      (named_pass instance_name instance_kind [] (map (instance_again tasks programs) made)
      (ap (distinct_check []) named ∙ names_pass instance_name instance_kind [] instances (then_second few _ e))
      (All-map (λ i. instance_kind i ≡ None) (instance_again tasks programs) made
      (All-weaker IsInstanceBack (λ i. instance_kind (instance_again tasks programs i) ≡ None) (λ i b. b.checks) made
      (instances_all instances e))))

  instances_kept : (instances : List text_instance.Instance) → instances_check tasks programs instances ≡ None
      → map (instance_of tasks programs) (map (instance_again tasks programs) (map (instance_of tasks programs) instances))
      ≡ map (instance_of tasks programs) instances
  instances_kept instances e =
      kept_again (instance_again tasks programs) (instance_of tasks programs) (map (instance_of tasks programs) instances)
      (All-weaker IsInstanceBack (λ i. instance_of tasks programs (instance_again tasks programs i) ≡ i) (λ i b. b.built)
      (map (instance_of tasks programs) instances) (instances_all instances e))

-- ---- a plant

-- what is spelled of a plant loads, as that plant
pub record LoadsAgain (plant : PlantData) : Type 0 where
  pub checks : source_check (written plant) ≡ None
  pub built : plant_of (written plant) ≡ plant

module _ (s : SourceTree) where
  abbrev plant : PlantData
  plant = plant_of s

  abbrev tasks : List (List ℕ)
  tasks = task_names s.configuration.tasks

  abbrev programs : List (List ℕ)
  programs = program_names s.programs

  -- what is spelled, and the names in it
  abbrev spelled_tasks : List text_task.Task
  spelled_tasks = map (task_tree plant.globals) plant.tasks

  abbrev spelled_programs : List ProgramTree
  spelled_programs = map (program_tree plant.globals) plant.types

  abbrev spelled_instances : List text_instance.Instance
  spelled_instances = map (instance_tree plant.tasks plant.types) plant.instances

  instances_by_name : spelled_instances ≡ map (instance_again tasks programs) plant.instances
  instances_by_name =
      let t : map (λ t. t.name) plant.tasks ≡ tasks = map-map (λ t. t.name) (task_of plant.globals) s.configuration.tasks in
      let p : map (λ p. p.name) plant.types ≡ programs = map-map (λ p. p.name) (program_of plant.globals) s.programs in
      λ i. map (instance_again (t i) (p i)) plant.instances

  pub loads_again : source_check s ≡ None → LoadsAgain plant
  loads_again e =
      let globals : List Variable = plant.globals in
      let after_globals = then_second (globals_check s.configuration.globals) _ e in
      let after_tasks = then_second (tasks_check globals s.configuration.tasks) _ after_globals in
      let after_types = then_second (programs_check globals s.programs) _ after_tasks in
      let after_instances = then_second (instances_check tasks programs s.configuration.instances) _ after_types in
      let good_globals = then_first (globals_check s.configuration.globals) _ e in
      let good_tasks = then_first (tasks_check globals s.configuration.tasks) _ after_globals in
      let good_types = then_first (programs_check globals s.programs) _ after_tasks in
      let good_instances = then_first (instances_check tasks programs s.configuration.instances) _ after_types in
      let g : globals_of (map declaration_tree globals) ≡ globals = globals_back s.configuration.globals good_globals in
      let t : task_names spelled_tasks ≡ tasks = tasks_named globals s.configuration.tasks in
      let p : program_names spelled_programs ≡ programs = programs_named globals s.programs in
      let tasks_built : map (task_of (globals_of (map declaration_tree globals))) spelled_tasks ≡ plant.tasks =
      ap (λ vs. map (task_of vs) spelled_tasks) g ∙ tasks_kept globals s.configuration.tasks good_tasks in
      let types_built : map (program_of (globals_of (map declaration_tree globals))) spelled_programs ≡ plant.types =
      ap (λ vs. map (program_of vs) spelled_programs) g ∙ programs_kept globals s.programs good_types in
      let instances_built : map (instance_of (task_names spelled_tasks) (program_names spelled_programs))
      spelled_instances ≡ plant.instances =
      (λ i. map (instance_of (t i) (p i)) (instances_by_name i)) ∙ instances_kept tasks programs s.configuration.instances good_instances in
      let built : plant_of (written plant) ≡ plant = λ i. record {
        configuration = s.configuration.name;
        resource = s.configuration.resource;
        processor = s.configuration.processor;
        globals = g i;
        tasks = tasks_built i;
        types = types_built i;
        instances = instances_built i;
      } in
      record {
        checks = both_pass (globals_check (map declaration_tree globals)) _ (globals_pass s.configuration.globals good_globals)
            (both_pass (tasks_check (globals_of (map declaration_tree globals)) spelled_tasks) _
            (ap (λ vs. tasks_check vs spelled_tasks) g ∙ tasks_pass globals s.configuration.tasks good_tasks)
            (both_pass (programs_check (globals_of (map declaration_tree globals)) spelled_programs) _
            (ap (λ vs. programs_check vs spelled_programs) g ∙ programs_pass globals s.programs good_types)
            (both_pass (instances_check (task_names spelled_tasks) (program_names spelled_programs) spelled_instances) _
            ((λ i. instances_check (t i) (p i) (instances_by_name i))
            ∙ instances_pass tasks programs s.configuration.instances good_instances)
            (ap (λ q. image_check (image_variables q)) built ∙ after_instances))));
        built = built;
      }
