-- Where no check fails, the plant is sound.
use Rattle.std.proofs.Common.{◌≡◌, ℕ, ◌<◌, ◌≤◌, ℤ, pos, ◌≤ℤ◌, int_lt, nat_lt, false, List, [], ◌∷◌, ◌++◌, length, map, All, Option, Some, None, unwrap_or, is_none, refl, sym, subst, ◌∙◌, rules}
use Rattle.std.specs.Option.{option_map}
use Rattle.std.proofs.lemmas.List.{length-map}
use Rattle.std.proofs.lemmas.List.Elements.{All-nil, All-cons, All-map}
use Rattle.sfc_base.specs.declared.limits.TheConstants.{INSTANCES, TASKS, VARIABLES}
use Rattle.sfc_base.specs.declared.var_type.VarType.TheVariants as types
use Rattle.sfc_text.specs.declared.tree.Instance as text_instance
use Rattle.sfc_text.specs.declared.tree.Literal.TheVariants as literal
use Rattle.sfc_text.specs.declared.tree.Program.{Program}
use Rattle.sfc_text.specs.declared.tree.Source.{Source}
use Rattle.sfc_text.specs.declared.tree.Task as text_task
use Rattle.sfc_text.specs.Trees.{source_of, program_of as program_tree}
use Rattle.sfc_base.specs.declared.references.Variable.TheVariants.{Global}
use Rattle.sfc_program.specs.sfc_check.Checking.{checked_literal}
use Rattle.sfc_base.specs.NameLists.{has, place_of}
use Rattle.sfc_events.specs.declared.load_error.LoadError.TheVariants as fault
use Rattle.sfc_events.specs.declared.load_error.Limit.TheVariants as limit
use Rattle.sfc_plant.specs.declared.variable.Variable.{Variable}
use Rattle.sfc_program.specs.sfc_variables.Checks.{when, in_turn, typed}
use Rattle.sfc_program.specs.sfc_variables.Declarations.{globals_check, globals_of}
use Rattle.sfc_plant.specs.VariableNames.{names_of, variable_place, typed_at}
use Rattle.sfc_program.specs.sfc_variables.Own.{global_id}
use Rattle.sfc_program.specs.Built.{program_of}
use Rattle.sfc_program.specs.Loading.{variable_check}
use Rattle.sfc_program.proofs.Soundness.{then_first, then_second, when_none, in_turn_passes, found_below, literal_sound, not_above, program_sound}
use Rattle.sfc_base.proofs.NamePlaces.{place_below}
use Rattle.sfc_plant.specs.Plants.{PlantData}
use Rattle.sfc_plant.specs.Image.{image_variables}
use Rattle.sfc_load.specs.Loading.{single_check, task_name, task_check, tasks_check, program_name, named_program_check, programs_check, instance_name, task_number, instance_check, instances_check, image_check, task_names, program_names}
use Rattle.sfc_load.specs.Built.{task_of, instance_of, source_check, plant_of}
use Rattle.sfc_plant.specs.Sound.{IsSingle, IsTask, IsProgram, IsInstance, IsPlant}

-- ---- tasks

variable_below : (globals : List Variable) (name : List ℕ) (i : ℕ) → variable_place globals name ≡ Some i → i < length globals
variable_below globals name i e = subst (λ n. i < n) (length-map globals (λ v. v.name)) (place_below name (names_of globals) i e)

place_sound : (globals : List Variable) (place : Option ℕ) → ((i : ℕ) → place ≡ Some i → i < length globals)
    → variable_check types.Bool fault.Unknown fault.NotBool (typed_at (λ i. Global (record { 0 = i })) globals place) ≡ None → unwrap_or place 0 < length globals
place_sound globals (Some i) below e = below i refl
place_sound globals None below e = cc

single_sound : (globals : List Variable) (single : Option (List ℕ)) → single_check globals single ≡ None → IsSingle (length globals) (option_map (global_id globals) single)
single_sound globals None e = tt
single_sound globals (Some name) e = place_sound globals (variable_place globals name) (variable_below globals name) e

not_negative : (t : ℤ) → int_lt t (pos 0) ≡ false → pos 0 ≤ℤ t
not_negative t e = search rules

pub task_sound : (globals : List Variable) (before : List (List ℕ)) (t : text_task.Task) → task_check globals before t ≡ None → IsTask (length globals) (task_of globals t)
task_sound globals before t e =
    let after_name = then_second (when (has before t.name) fault.Duplicate) _ e in
    let interval = then_second (single_check globals t.single) _ after_name in
    let range = literal_sound t.interval (then_first (typed (checked_literal (literal.Time t.interval) types.Time)) _ interval) in
    record {
      single = single_sound globals t.single (then_first (single_check globals t.single) _ after_name);
      low = not_negative t.interval (when_none (int_lt t.interval (pos 0)) fault.LiteralRange
          (then_second (typed (checked_literal (literal.Time t.interval) types.Time)) _ interval));
      high = range.high;
    }

record TasksSound (globals : List Variable) (tasks : List text_task.Task) : Type 0 where
  each : All (IsTask (length globals)) (map (task_of globals) tasks)
  few : length tasks ≤ TASKS

tasks_sound : (globals : List Variable) (tasks : List text_task.Task) → tasks_check globals tasks ≡ None → TasksSound globals tasks
unfolding tasks_check
tasks_sound globals tasks e =
    let n : ℕ = length tasks in
    record {
      each = All-map (IsTask (length globals)) (task_of globals) tasks
          (in_turn_passes task_name (task_check globals) (λ t. IsTask (length globals) (task_of globals t)) (task_sound globals) [] tasks
          (then_second (when (nat_lt TASKS n) (fault.Limit limit.Tasks)) _ e));
      few = not_above TASKS n (when_none (nat_lt TASKS n) (fault.Limit limit.Tasks) (then_first _ _ e));
    }

-- ---- program types

each_program : (globals : List Variable) (before : List (List ℕ)) (programs : List Program)
    → in_turn program_name (named_program_check globals) before (map program_tree programs) ≡ None
    → All (IsProgram (length globals)) (map (program_of globals) (map program_tree programs))
each_program globals before [] e = All-nil (IsProgram (length globals))
each_program globals before (p ∷ programs) e =
    let rest = in_turn program_name (named_program_check globals) (before ++ p.name ∷ []) (map program_tree programs) in
    let this = then_first (named_program_check globals before (program_tree p)) rest e in
    All-cons (IsProgram (length globals)) (program_of globals (program_tree p)) (map (program_of globals) (map program_tree programs))
    (program_sound globals p (then_second (when (has before p.name) fault.Duplicate) _ this))
    (each_program globals (before ++ p.name ∷ []) programs (then_second (named_program_check globals before (program_tree p)) rest e))

programs_sound : (globals : List Variable) (programs : List Program) → programs_check globals (map program_tree programs) ≡ None
    → All (IsProgram (length globals)) (map (program_of globals) (map program_tree programs))
unfolding programs_check
programs_sound globals programs e = each_program globals [] programs e

-- ---- instances

task_below : (tasks : List (List ℕ)) (name : Option (List ℕ)) (i : ℕ) → task_number tasks name ≡ Some i → i < length tasks
task_below tasks None i e = cc
task_below tasks (Some name) i e = place_below name tasks i e

pub instance_sound : (tasks programs before : List (List ℕ)) (i : text_instance.Instance) → instance_check tasks programs before i ≡ None
    → IsInstance (length tasks) (length programs) (instance_of tasks programs i)
instance_sound tasks programs before i e =
    let named = then_second (when (has before i.name) fault.Duplicate) _ e in
    record {
      task = found_below (length tasks) (task_number tasks i.task) (task_below tasks i.task)
          (when_none (is_none (task_number tasks i.task)) fault.NoTask (then_first _ _ named));
      program = found_below (length programs) (place_of i.program programs) (place_below i.program programs)
          (when_none (is_none (place_of i.program programs)) fault.UnknownType
          (then_second (when (is_none (task_number tasks i.task)) fault.NoTask) _ named));
    }

record InstancesSound (tasks programs : List (List ℕ)) (instances : List text_instance.Instance) : Type 0 where
  each : All (IsInstance (length tasks) (length programs)) (map (instance_of tasks programs) instances)
  few : length instances ≤ INSTANCES

instances_sound : (tasks programs : List (List ℕ)) (instances : List text_instance.Instance) → instances_check tasks programs instances ≡ None
    → InstancesSound tasks programs instances
unfolding instances_check
instances_sound tasks programs instances e =
    let n : ℕ = length instances in
    record {
      each = All-map (IsInstance (length tasks) (length programs)) (instance_of tasks programs) instances
          (in_turn_passes instance_name (instance_check tasks programs) (λ i. IsInstance (length tasks) (length programs) (instance_of tasks programs i))
          (instance_sound tasks programs) [] instances (then_second (when (nat_lt INSTANCES n) (fault.Limit limit.Instances)) _ e));
      few = not_above INSTANCES n (when_none (nat_lt INSTANCES n) (fault.Limit limit.Instances) (then_first _ _ e));
    }

image_sound : (image : List Variable) → image_check image ≡ None → length image ≤ VARIABLES
unfolding image_check
image_sound image e =
    let n : ℕ = length image in
    not_above VARIABLES n (when_none (nat_lt VARIABLES n) (fault.Limit limit.Variables) (then_first _ _ e))

-- ---- whole texts

pub plant_sound : (s : Source) → source_check (source_of s) ≡ None → IsPlant (plant_of (source_of s))
plant_sound s e =
    let globals : List Variable = globals_of s.configuration.globals in
    let written_tasks : List text_task.Task = s.configuration.tasks in
    let written_programs = map program_tree s.programs in
    let after_globals = then_second (globals_check s.configuration.globals) _ e in
    let after_tasks = then_second (tasks_check globals written_tasks) _ after_globals in
    let after_types = then_second (programs_check globals written_programs) _ after_tasks in
    let after_instances = then_second (instances_check (task_names written_tasks) (program_names written_programs) s.configuration.instances) _ after_types in
    let t = tasks_sound globals written_tasks (then_first _ _ after_globals) in
    let i = instances_sound (task_names written_tasks) (program_names written_programs) s.configuration.instances (then_first _ _ after_types) in
    let task_count : length (task_names written_tasks) ≡ length (map (task_of globals) written_tasks) =
    length-map written_tasks task_name ∙ sym (length-map written_tasks (task_of globals)) in
    let type_count : length (program_names written_programs) ≡ length (map (program_of globals) written_programs) =
    length-map written_programs program_name ∙ sym (length-map written_programs (program_of globals)) in
    record {
      tasks = t.each;
      types = programs_sound globals s.programs (then_first _ _ after_tasks);
      instances = subst (λ n. All (IsInstance n (length (map (program_of globals) written_programs))) (plant_of (source_of s)).instances) task_count
          (subst (λ n. All (IsInstance (length (task_names written_tasks)) n) (plant_of (source_of s)).instances) type_count i.each);
      variable_limit = image_sound (image_variables (plant_of (source_of s))) after_instances;
      task_limit = rw (length-map written_tasks (task_of globals)) t.few;
      instance_limit = rw (length-map s.configuration.instances (instance_of (task_names written_tasks) (program_names written_programs))) i.few;
    }

-- the same of the plant that was built
pub built_sound : (s : Source) (plant : PlantData) → source_check (source_of s) ≡ None → plant ≡ plant_of (source_of s) → IsPlant plant
built_sound s plant e built = subst IsPlant (sym built) (plant_sound s e)
