-- A plant that a text is, where loading accepts it, is typed.
use Rattle.std.proofs.Common.{◌≡◌, ℕ, List, [], map, All, Option, Some, None, slice_get, refl, sym, ap, ◌∙◌, subst}
use Rattle.std.specs.Option.{option_map}
use Rattle.std.proofs.lemmas.List.Elements.{All-get_or}
use Rattle.std.proofs.lemmas.Option.{slice_get-map, slice_get_within, get_or_from_slice_get}
use Rattle.sfc_base.specs.declared.ids.ProgId.{ProgId}
use Rattle.sfc_base.specs.NameLists.{has}
use Rattle.sfc_text.specs.Trees.{ProgramTree, SourceTree}
use Rattle.sfc_plant.specs.declared.instance.Instance.{Instance}
use Rattle.sfc_plant.specs.declared.variable.Variable.{Variable}
use Rattle.sfc_plant.specs.Plants.{PlantData}
use Rattle.sfc_plant.specs.Image.{locals_in}
use Rattle.sfc_plant.specs.Finding.{chart_in, chart_among, chart_of, locals_at, instance_locals}
use Rattle.sfc_plant.specs.VariableNames.{variable_named}
use Rattle.sfc_script.specs.sfc_check.Scopes.{Declares}
use Rattle.sfc_events.specs.declared.load_error.LoadError.TheVariants as fault
use Rattle.sfc_script.specs.sfc_variables.Checks.{when}
use Rattle.sfc_script.specs.sfc_variables.Declarations.{declared_in, globals_check, globals_of}
use Rattle.sfc_script.specs.sfc_program.Built.{program_of}
use Rattle.sfc_script.specs.sfc_program.Loading.{program_check, space_of}
use Rattle.sfc_script.specs.sfc_program.Names.{names_in}
use Rattle.sfc_script.proofs.of_sfc_program.Soundness.{then_first, then_second, in_turn_passes}
use Rattle.sfc_script.specs.sfc_load.Loading.{tasks_check, program_name, named_program_check, programs_check}
use Rattle.sfc_script.specs.sfc_load.Built.{source_check, plant_of}
use Rattle.sfc_output.specs.sfc_image.Types.{types_of}
use Rattle.sfc_output.specs.sfc_instance.Types.{IsTypedInstance}
use Rattle.sfc_output.specs.sfc_instances.Types.{IsTypedPlant}
use Rattle.sfc_replay.proofs.TypedVariables.{declared_typed, image_typed}
use Rattle.sfc_replay.proofs.TypedNames.{named_type}
use Rattle.sfc_replay.proofs.TypedCharts.{HasTypes, program_typed, none_typed}

-- ---- the program type of an instance

abbrev program_at : List ProgramTree → Option Instance → Option ProgramTree
program_at programs None = None
program_at programs (Some i) = slice_get programs i.program.0

chart_at : (globals : List Variable) (programs : List ProgramTree) (i : Option Instance)
    → chart_among (map (program_of globals) programs) i ≡ chart_in (option_map (program_of globals) (program_at programs i))
chart_at globals programs None = refl
chart_at globals programs (Some i) = ap chart_in (slice_get-map (program_of globals) programs i.program.0)

locals_there : (globals : List Variable) (programs : List ProgramTree) (i : Option Instance)
    → locals_at (map (program_of globals) programs) i ≡ locals_in (option_map (program_of globals) (program_at programs i))
locals_there globals programs None = refl
locals_there globals programs (Some i) = ap locals_in (slice_get-map (program_of globals) programs i.program.0)

-- ---- the checks of program types

abbrev Passes : List Variable → ProgramTree → Type 0
Passes globals p = program_check globals p ≡ None

programs_pass : (globals : List Variable) (programs : List ProgramTree) → programs_check globals programs ≡ None
    → All (Passes globals) programs
unfolding programs_check
programs_pass globals programs e =
    in_turn_passes program_name (named_program_check globals) (Passes globals)
    (λ before p passed. then_second (when (has before p.name) fault.Duplicate) _ passed) [] programs e

program_passes : (globals : List Variable) (programs : List ProgramTree) (k : ℕ) (p : ProgramTree) → All (Passes globals) programs
    → slice_get programs k ≡ Some p → Passes globals p
program_passes globals programs k p all e =
    subst (Passes globals) (get_or_from_slice_get programs k p p e)
    (All-get_or (Passes globals) programs k p (slice_get_within programs k p e) all)

found_passes : (globals : List Variable) (programs : List ProgramTree) (i : Option Instance) (p : ProgramTree)
    → All (Passes globals) programs → program_at programs i ≡ Some p → Passes globals p
found_passes globals programs None p all e = absurd cc
found_passes globals programs (Some i) p all e = program_passes globals programs i.program.0 p all e

-- ---- an instance

-- what names stand for is declared so in the plant
names_declared : (plant : PlantData) (id : ProgId) (p : ProgramTree)
    → instance_locals plant id ≡ (program_of plant.globals p).locals
    → (own : Option (List ℕ)) → Declares (names_in (space_of plant.globals p) own) (types_of plant id)
names_declared plant id p locals own = record {
  variable = λ name v t e. named_type plant id name (v, t) (ap (λ vs. variable_named vs plant.globals name) locals ∙ e);
}

built_typed : (plant : PlantData) (id : ProgId) (p : Option ProgramTree)
    → instance_locals plant id ≡ locals_in (option_map (program_of plant.globals) p)
    → ((q : ProgramTree) → p ≡ Some q → Passes plant.globals q)
    → HasTypes (types_of plant id) (chart_in (option_map (program_of plant.globals) p))
built_typed plant id None locals passes = none_typed (types_of plant id)
built_typed plant id (Some p) locals passes =
    program_typed (types_of plant id) plant.globals p (passes p refl) (names_declared plant id p locals)

of_chart : (plant : PlantData) (id : ProgId) → HasTypes (types_of plant id) (chart_of plant id) → IsTypedInstance plant id
of_chart plant id h = record { targets = h.targets; bodies = h.bodies }

instance_typed : (s : SourceTree) (id : ProgId) → All (Passes (globals_of s.configuration.globals)) s.programs
    → IsTypedInstance (plant_of s) id
instance_typed s id all =
    let plant : PlantData = plant_of s in
    let globals : List Variable = globals_of s.configuration.globals in
    let instance : Option Instance = slice_get plant.instances id.0 in
    of_chart plant id
    (subst (HasTypes (types_of plant id)) (sym (chart_at globals s.programs instance))
    (built_typed plant id (program_at s.programs instance) (locals_there globals s.programs instance)
    (λ q e. found_passes globals s.programs instance q all e)))

-- ---- a whole plant

pub plant_typed : (s : SourceTree) → source_check s ≡ None → IsTypedPlant (plant_of s)
plant_typed s e =
    let globals : List Variable = globals_of s.configuration.globals in
    let after_globals = then_second (globals_check s.configuration.globals) _ e in
    let after_tasks = then_second (tasks_check globals s.configuration.tasks) _ after_globals in
    let passed = programs_pass globals s.programs (then_first (programs_check globals s.programs) _ after_tasks) in
    let plant : PlantData = plant_of s in
    record {
      begins = image_typed globals s.programs plant.instances (declared_typed (declared_in s.configuration.globals));
      instances = λ k lt. instance_typed s (record { 0 = k }) passed;
    }
