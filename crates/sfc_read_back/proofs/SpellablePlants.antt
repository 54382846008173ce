-- A plant that was loaded of a text can be spelled.
use Rattle.std.proofs.Common.{◌≡◌, ℕ, nat_lt, not, ◌<◌, ◌^◌, ℤ, pos, neg_ℤ, ◌≤ℤ◌, List, [], ◌∷◌, ◌++◌, length, map, flat_map, filter_map, All, Option, Some, None, unwrap_or, refl, sym, ap, ◌∙◌, subst, append_assoc, arith}
use Rattle.std.proofs.lemmas.Int.{ints}
use Rattle.std.proofs.lemmas.List.{length-map}
use Rattle.std.proofs.lemmas.List.Elements.{All-nil, All-cons, All-head, All-tail, All-append, All-map, All-weaker}
use Rattle.std.proofs.lemmas.Simd.{map-map}
use Rattle.sfc_base.specs.declared.limits.TheConstants.{INSTANCES, TASKS}
use Rattle.sfc_base.specs.declared.location.Location.{Location}
use Rattle.sfc_tokens.specs.declared.token.TokenKind.TheVariants as token
use Rattle.sfc_base.specs.declared.var_type.VarType.{VarType}
use Rattle.sfc_base.specs.declared.var_type.VarType.TheVariants as types
use Rattle.sfc_base.specs.Names.{IsName}
use Rattle.sfc_tokens.specs.Spelling.{CanStand}
use Rattle.sfc_text.specs.declared.tree.Declaration.{Declaration}
use Rattle.sfc_text.specs.declared.tree.External.{External}
use Rattle.sfc_text.specs.declared.tree.Instance as text_instance
use Rattle.sfc_text.specs.declared.tree.Literal.{Literal}
use Rattle.sfc_text.specs.declared.tree.Task as text_task
use Rattle.sfc_text.specs.declared.tree.VariableBlock.{VariableBlock}
use Rattle.sfc_text.specs.declared.tree.VariableBlock.TheVariants as block
use Rattle.sfc_text.specs.Declares.{OfOptional, OfName, OfDeclaration, OfVariables, OfElement, OfProgram, OfTask, OfSource}
use Rattle.sfc_text.specs.Limits.{Limits}
use Rattle.sfc_text.specs.SpelledCharts.{KeepsElement}
use Rattle.sfc_text.specs.SpelledSources.{KeepsProgram, KeepsSource}
use Rattle.sfc_text.specs.Trees.{ElementTree, AStep, ATransition, AnAction, ProgramTree, SourceTree}
use Rattle.sfc_base.specs.declared.references.GlobalId.{GlobalId}
use Rattle.sfc_base.specs.declared.references.Variable.TheVariants.{Global}
use Rattle.sfc_load.specs.sfc_check.Checking.{checked_literal}
use Rattle.sfc_expr.specs.Types.{IsOf}
use Rattle.sfc_base.specs.Values.{default_value}
use Rattle.sfc_load.proofs.of_sfc_check.CheckedTypes.{literal_of}
use Rattle.sfc_events.specs.declared.load_error.LoadError.TheVariants as fault
use Rattle.sfc_events.specs.declared.load_error.Limit.TheVariants as limit
use Rattle.sfc_plant.specs.declared.variable.Variable.{Variable}
use Rattle.sfc_load.specs.sfc_variables.Checks.{when}
use Rattle.sfc_load.specs.sfc_variables.Declarations.{Declared, declared_as, declared_by, declared_in, declared_name, declared_check, initial_check, initial_value, variable_of, globals_check, globals_of}
use Rattle.sfc_plant.specs.VariableNames.{names_of, variable_place, typed_at}
use Rattle.sfc_load.specs.sfc_variables.Own.{Own, ALocal, AnExternal, own_in, named_by, own_name, own_names, local_in, external_check, kind_check, variables_check}
use Rattle.sfc_load.specs.sfc_variables.Locations.{fits_location}
use Rattle.sfc_plant.specs.declared.program_type.ProgramType.{ProgramType}
use Rattle.sfc_load.specs.sfc_program.Elements.{step_names, action_names}
use Rattle.sfc_load.specs.sfc_program.Loading.{limits_check, distinct_check, element_names, initial_check as has_initial_check, space_of, program_check}
use Rattle.sfc_plant.specs.Spaces.{Space, space_in}
use Rattle.sfc_load.specs.sfc_program.Built.{program_of}
use Rattle.sfc_load.proofs.of_sfc_program.Soundness.{then_first, then_second, in_turn_passes}
use Rattle.sfc_base.proofs.NamePlaces.{place_below}
use Rattle.sfc_plant.specs.declared.task.Task.{Task}
use Rattle.sfc_plant.specs.Plants.{PlantData}
use Rattle.sfc_load.specs.Loading.{task_name, task_check, tasks_check, program_name, programs_check, instance_name, instance_check, instances_check, task_names, program_names}
use Rattle.sfc_load.specs.Built.{task_of, instance_of, source_check, plant_of}
use Rattle.sfc_plant.specs.Sound.{IsSingle, IsTask, IsInstance}
use Rattle.sfc_load.proofs.Soundness.{task_sound, instance_sound}
use Rattle.sfc_plant.specs.Names.{name_at}
use Rattle.sfc_read_back.specs.SpelledPlants.{CanSpellLocation, CanSpellVariable, CanSpellExternal, CanSpellChart, CanSpellProgram, CanSpellTask, CanSpellInstance, CanSpellPlant}
use Rattle.sfc_read_back.proofs.SpellableTerms.{AreDeclared, name_there}
use Rattle.sfc_read_back.proofs.SpellableCharts.{between, Sided, chart_spelled}
use Rattle.sfc_read_back.proofs.WrittenLists.{kinds_pass}
use Rattle.sfc_read_back.proofs.WrittenOwn.{IsNamedAgain, locals_pass, externals_pass}
use Rattle.sfc_read_back.proofs.WrittenPrograms.{space_kept}
use Rattle.sfc_read_back.proofs.WrittenVariables.{held}

-- ---- variables

-- a name that is declared, with its location
record IsNamed (d : Declared) : Type 0 where
  name : IsName d.name
  location : OfOptional CanSpellLocation d.location

location_stands : (l : Option Location) → OfOptional (λ l. CanStand (token.Location l)) l → OfOptional CanSpellLocation l
location_stands None h = tt
location_stands (Some l) h = record { count = h.0; numbers = h.1 }

declared_names : (d : Declaration) (names : List (List ℕ)) → OfOptional CanSpellLocation d.location → All (OfName CanStand) names
    → All IsNamed (map (declared_as d) names)
declared_names d [] l h = All-nil IsNamed
declared_names d (name ∷ names) l h =
    All-cons IsNamed (declared_as d name) (map (declared_as d) names)
    (record { name = All-head (OfName CanStand) name names h; location = l })
    (declared_names d names l (All-tail (OfName CanStand) name names h))

declared_named : (ds : List Declaration) → All (OfDeclaration CanStand) ds → All IsNamed (declared_in ds)
declared_named [] h = All-nil IsNamed
declared_named (d ∷ ds) h =
    let one = All-head (OfDeclaration CanStand) d ds h in
    All-append IsNamed (declared_by d) (declared_in ds) (declared_names d d.names (location_stands d.location one.location) one.names)
    (declared_named ds (All-tail (OfDeclaration CanStand) d ds h))

default_in_range : (t : VarType) → IsOf t (default_value t)
default_in_range types.Bool = (refl, refl)
default_in_range types.Int = (refl, refl)
default_in_range types.Dint = (refl, refl)
default_in_range types.Time = (refl, refl)

initial_of : (t : VarType) (initial : Option Literal) → initial_check t initial ≡ None → IsOf t (initial_value t initial)
initial_of t None e = default_in_range t
initial_of t (Some l) e = held (IsOf t) (default_value t) (checked_literal l t) (literal_of l t) e

variable_spelled : (d : Declared) → IsNamed d → declared_check d ≡ None → CanSpellVariable (variable_of d)
variable_spelled d is e = record {
  name = is.name;
  location = is.location;
  initial = (initial_of d.var_type d.initial (then_second (when (not (fits_location d.var_type d.location)) fault.WrongType) _ e)).1;
}

variables_spelled : (ds : List Declared) → All IsNamed ds → All (λ d. declared_check d ≡ None) ds → All CanSpellVariable (map variable_of ds)
variables_spelled [] is e = All-nil CanSpellVariable
variables_spelled (d ∷ ds) is e =
    All-cons CanSpellVariable (variable_of d) (map variable_of ds)
    (variable_spelled d (All-head IsNamed d ds is) (All-head (λ d. declared_check d ≡ None) d ds e))
    (variables_spelled ds (All-tail IsNamed d ds is) (All-tail (λ d. declared_check d ≡ None) d ds e))

names_spelled : (vs : List Variable) → All CanSpellVariable vs → All IsName (names_of vs)
names_spelled vs h = All-map IsName (λ v. v.name) vs (All-weaker CanSpellVariable (λ v. IsName v.name) (λ v is. is.name) vs h)

globals_spelled : (ds : List Declaration) → All (OfDeclaration CanStand) ds → globals_check ds ≡ None → All CanSpellVariable (globals_of ds)
unfolding globals_check
globals_spelled ds h e =
    variables_spelled (declared_in ds) (declared_named ds h) (kinds_pass declared_name declared_check [] (declared_in ds) e)

-- ---- the variables of a program type

only_locals : (ds : List Declared) (rest : List Own) → filter_map local_in (map ALocal ds ++ rest) ≡ ds ++ filter_map local_in rest
only_locals [] rest = refl
only_locals (d ∷ ds) rest = ap (λ es. d ∷ es) (only_locals ds rest)

externals_by : (names : List (List ℕ)) (t : VarType) (rest : List Own) → filter_map local_in (map (λ name. AnExternal name t) names ++ rest) ≡ filter_map local_in rest
externals_by [] t rest = refl
externals_by (name ∷ names) t rest = externals_by names t rest

no_externals : (es : List External) (rest : List Own) → filter_map local_in (flat_map named_by es ++ rest) ≡ filter_map local_in rest
no_externals [] rest = refl
no_externals (e ∷ es) rest =
    ap (filter_map local_in) (append_assoc (named_by e) (flat_map named_by es) rest)
    ∙ externals_by e.names e.var_type (flat_map named_by es ++ rest) ∙ no_externals es rest

locals_named : (blocks : List VariableBlock) → All (OfVariables CanStand) blocks → All IsNamed (filter_map local_in (own_in blocks))
locals_named [] h = All-nil IsNamed
locals_named (block.Local ds ∷ blocks) h =
    subst (All IsNamed) (sym (only_locals (declared_in ds) (own_in blocks)))
    (All-append IsNamed (declared_in ds) (filter_map local_in (own_in blocks))
    (declared_named ds (All-head (OfVariables CanStand) (block.Local ds) blocks h))
    (locals_named blocks (All-tail (OfVariables CanStand) (block.Local ds) blocks h)))
locals_named (block.External es ∷ blocks) h =
    subst (All IsNamed) (sym (no_externals es (own_in blocks))) (locals_named blocks (All-tail (OfVariables CanStand) (block.External es) blocks h))

-- a global that a program type names is one
external_below : (globals : List Variable) (place : Option ℕ) (t : VarType) (name : List ℕ) (id : GlobalId) → variable_place globals name ≡ place
    → external_check (typed_at (λ i. Global (record { 0 = i })) globals place) t ≡ None → record { 0 = unwrap_or place 0 } ≡ id → id.0 < length globals
external_below globals (Some i) t name id is e same =
    subst (λ k. k < length globals) (ap (λ (x : GlobalId). x.0) same)
    (subst (λ n. i < n) (length-map globals (λ v. v.name)) (place_below name (names_of globals) i is))
external_below globals None t name id is e same = cc

external_spelled : (globals : List Variable) (p : ProgramType) (id : GlobalId) → All IsName (names_of globals) → IsNamedAgain globals id
    → CanSpellExternal (space_in globals p) id
external_spelled globals p id are back =
    let name : List ℕ = name_at (names_of globals) id.0 in
    let lt : id.0 < length globals = external_below globals (variable_place globals name) _ name id refl back.checks back.built in
    record { is_global = lt; name = name_there (names_of globals) id.0 are (rw (length-map globals (λ v. v.name)) lt) }

-- ---- program types

step_names_stand : (es : List ElementTree) → All (OfElement CanStand) es → All IsName (step_names es)
step_names_stand [] h = All-nil IsName
step_names_stand (AStep s ∷ es) h =
    All-cons IsName s.name (step_names es) (All-head (OfElement CanStand) (AStep s) es h) (step_names_stand es (All-tail (OfElement CanStand) (AStep s) es h))
step_names_stand (ATransition t ∷ es) h = step_names_stand es (All-tail (OfElement CanStand) (ATransition t) es h)
step_names_stand (AnAction a ∷ es) h = step_names_stand es (All-tail (OfElement CanStand) (AnAction a) es h)

action_names_stand : (es : List ElementTree) → All (OfElement CanStand) es → All IsName (action_names es)
action_names_stand [] h = All-nil IsName
action_names_stand (AnAction a ∷ es) h =
    All-cons IsName a.name (action_names es) (All-head (OfElement CanStand) (AnAction a) es h)
    (action_names_stand es (All-tail (OfElement CanStand) (AnAction a) es h))
action_names_stand (AStep s ∷ es) h = action_names_stand es (All-tail (OfElement CanStand) (AStep s) es h)
action_names_stand (ATransition t ∷ es) h = action_names_stand es (All-tail (OfElement CanStand) (ATransition t) es h)

sided : (limits : Limits) (e : ElementTree) → KeepsElement limits e → Sided e
sided limits (AStep s) h = tt
sided limits (ATransition t) h = record { preceding = h.0; following = h.1 }
sided limits (AnAction a) h = tt

program_spelled : (limits : Limits) (globals : List Variable) (p : ProgramTree) → All IsName (names_of globals) → OfProgram CanStand p
    → KeepsProgram limits p → program_check globals p ≡ None → CanSpellProgram globals (program_of globals p)
unfolding program_check variables_check
program_spelled limits globals p are stands keeps e =
    let loaded : ProgramType = program_of globals p in
    let own : Space = space_of globals p in
    let no_limit = then_second (limits_check p.elements) _ e in
    let variables = then_first (variables_check globals p.variables) _ no_limit in
    let declared = then_second (variables_check globals p.variables) _ no_limit in
    let after = then_second (distinct_check (own_names p.variables) (element_names p.elements)) _ declared in
    let passes = kinds_pass own_name (kind_check globals) [] (own_in p.variables) variables in
    let locals = variables_spelled (filter_map local_in (own_in p.variables)) (locals_named p.variables stands.variables)
    (locals_pass globals (own_in p.variables) passes) in
    let names : AreDeclared own = record {
      globals = are;
      locals = names_spelled loaded.locals locals;
      steps = step_names_stand p.elements stands.elements;
      actions = action_names_stand p.elements stands.elements;
    } in
    let chart : CanSpellChart own loaded.chart = chart_spelled own names p.elements stands.elements
    (All-weaker (KeepsElement limits) Sided (sided limits) p.elements keeps.elements) (then_second (has_initial_check p.elements) _ after) in
    record {
      name = stands.name;
      locals = locals;
      externals = All-weaker (IsNamedAgain globals) (CanSpellExternal (space_in globals loaded)) (λ id back. external_spelled globals loaded id are back)
          loaded.externals (externals_pass globals (own_in p.variables) passes);
      chart = subst (λ s. CanSpellChart s loaded.chart) (sym (space_kept globals p)) chart;
    }

programs_spelled : (limits : Limits) (globals : List Variable) (ps : List ProgramTree) → All IsName (names_of globals) → All (OfProgram CanStand) ps
    → All (KeepsProgram limits) ps → All (λ p. program_check globals p ≡ None) ps → All (CanSpellProgram globals) (map (program_of globals) ps)
programs_spelled limits globals [] are s k e = All-nil (CanSpellProgram globals)
programs_spelled limits globals (p ∷ ps) are s k e =
    All-cons (CanSpellProgram globals) (program_of globals p) (map (program_of globals) ps)
    (program_spelled limits globals p are (All-head (OfProgram CanStand) p ps s) (All-head (KeepsProgram limits) p ps k)
    (All-head (λ p. program_check globals p ≡ None) p ps e))
    (programs_spelled limits globals ps are (All-tail (OfProgram CanStand) p ps s) (All-tail (KeepsProgram limits) p ps k)
    (All-tail (λ p. program_check globals p ≡ None) p ps e))

-- ---- the configuration

single_spelled : (globals : List Variable) (single : Option GlobalId) → All IsName (names_of globals) → IsSingle (length globals) single
    → OfOptional (λ (id : GlobalId). IsName (name_at (names_of globals) id.0)) single
single_spelled globals None are h = tt
single_spelled globals (Some id) are lt = name_there (names_of globals) id.0 are (rw (length-map globals (λ v. v.name)) lt)

not_negative : (t : ℤ) → pos 0 ≤ℤ t → neg_ℤ (pos (2 ^ 62)) ≤ℤ t
not_negative t low = omega (arith, ints)

task_spelled : (globals : List Variable) (t : text_task.Task) → All IsName (names_of globals) → OfTask CanStand t → IsTask (length globals) (task_of globals t)
    → CanSpellTask globals (task_of globals t)
task_spelled globals t are stands is =
    let made = task_of globals t in
    record {
      name = stands.name;
      single = single_spelled globals made.single are is.single;
      interval = between t.interval (not_negative t.interval is.low) is.high;
      priority = stands.priority;
    }

tasks_spelled : (globals : List Variable) (ts : List text_task.Task) → All IsName (names_of globals) → All (OfTask CanStand) ts
    → All (λ t. IsTask (length globals) (task_of globals t)) ts → All (CanSpellTask globals) (map (task_of globals) ts)
tasks_spelled globals [] are s h = All-nil (CanSpellTask globals)
tasks_spelled globals (t ∷ ts) are s h =
    All-cons (CanSpellTask globals) (task_of globals t) (map (task_of globals) ts)
    (task_spelled globals t are (All-head (OfTask CanStand) t ts s) (All-head (λ t. IsTask (length globals) (task_of globals t)) t ts h))
    (tasks_spelled globals ts are (All-tail (OfTask CanStand) t ts s) (All-tail (λ t. IsTask (length globals) (task_of globals t)) t ts h))

instance_spelled : (tasks : List Task) (types : List ProgramType) (task_list program_list : List (List ℕ)) (i : text_instance.Instance)
    → map (λ t. t.name) tasks ≡ task_list → map (λ p. p.name) types ≡ program_list → All IsName task_list → All IsName program_list → IsName i.name
    → IsInstance (length task_list) (length program_list) (instance_of task_list program_list i)
    → CanSpellInstance tasks types (instance_of task_list program_list i)
instance_spelled tasks types task_list program_list i t p task_names_are program_names_are is h =
    let made = instance_of task_list program_list i in
    record {
      name = is;
      task = subst (λ names. IsName (name_at names made.task.0)) (sym t) (name_there task_list made.task.0 task_names_are h.task);
      program = subst (λ names. IsName (name_at names made.program.0)) (sym p) (name_there program_list made.program.0 program_names_are h.program);
    }

instances_spelled : (tasks : List Task) (types : List ProgramType) (task_list program_list : List (List ℕ)) → map (λ t. t.name) tasks ≡ task_list
    → map (λ p. p.name) types ≡ program_list → All IsName task_list → All IsName program_list → (is : List text_instance.Instance)
    → All (λ i. IsName i.name) is → All (λ i. IsInstance (length task_list) (length program_list) (instance_of task_list program_list i)) is
    → All (CanSpellInstance tasks types) (map (instance_of task_list program_list) is)
instances_spelled tasks types task_list program_list t p named typed [] n h = All-nil (CanSpellInstance tasks types)
instances_spelled tasks types task_list program_list t p named typed (i ∷ is) n h =
    let Found : text_instance.Instance → Type 0 = λ i. IsInstance (length task_list) (length program_list) (instance_of task_list program_list i) in
    All-cons (CanSpellInstance tasks types) (instance_of task_list program_list i) (map (instance_of task_list program_list) is)
    (instance_spelled tasks types task_list program_list i t p named typed (All-head (λ i. IsName i.name) i is n) (All-head Found i is h))
    (instances_spelled tasks types task_list program_list t p named typed is (All-tail (λ i. IsName i.name) i is n) (All-tail Found i is h))

-- ---- the whole

pub plant_spelled : (limits : Limits) (s : SourceTree) → OfSource CanStand s → KeepsSource limits s → source_check s ≡ None → CanSpellPlant (plant_of s)
unfolding tasks_check programs_check instances_check
plant_spelled limits s stands keeps e =
    let c = s.configuration in
    let globals : List Variable = globals_of c.globals in
    let after_globals = then_second (globals_check c.globals) _ e in
    let after_tasks = then_second (tasks_check globals c.tasks) _ after_globals in
    let after_types = then_second (programs_check globals s.programs) _ after_tasks in
    let vs = globals_spelled c.globals stands.configuration.globals (then_first (globals_check c.globals) _ e) in
    let are = names_spelled globals vs in
    let task_list : List (List ℕ) = task_names c.tasks in
    let program_list : List (List ℕ) = program_names s.programs in
    let tasks_are : All IsName task_list = All-map IsName task_name c.tasks
    (All-weaker (OfTask CanStand) (λ t. IsName t.name) (λ t is. is.name) c.tasks stands.configuration.tasks) in
    let programs_are : All IsName program_list = All-map IsName program_name s.programs
    (All-weaker (OfProgram CanStand) (λ p. IsName p.name) (λ p is. is.name) s.programs stands.programs) in
    let sound = in_turn_passes task_name (task_check globals) (λ t. IsTask (length globals) (task_of globals t)) (task_sound globals) [] c.tasks
    (then_second (when (nat_lt TASKS (length c.tasks)) (fault.Limit limit.Tasks)) _ (then_first (tasks_check globals c.tasks) _ after_globals)) in
    let checks = kinds_pass program_name (program_check globals) [] s.programs (then_first (programs_check globals s.programs) _ after_tasks) in
    let found = in_turn_passes instance_name (instance_check task_list program_list)
    (λ i. IsInstance (length task_list) (length program_list) (instance_of task_list program_list i)) (instance_sound task_list program_list) [] c.instances
    (then_second (when (nat_lt INSTANCES (length c.instances)) (fault.Limit limit.Instances)) _ (then_first (instances_check task_list program_list c.instances) _ after_types)) in
    let plant : PlantData = plant_of s in
    record {
      configuration = stands.configuration.name;
      resource = stands.configuration.resource;
      processor = stands.configuration.processor;
      globals = vs;
      tasks = tasks_spelled globals c.tasks are stands.configuration.tasks sound;
      types = programs_spelled limits globals s.programs are stands.programs keeps.programs checks;
      instances = instances_spelled plant.tasks plant.types task_list program_list (map-map (λ t. t.name) (task_of globals) c.tasks)
          (map-map (λ p. p.name) (program_of globals) s.programs) tasks_are programs_are c.instances stands.configuration.instances found;
    }
