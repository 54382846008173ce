-- What names stand for in an instance of a plant, and where the transitions of its program type were checked.
use Rattle.std.proofs.Common.{◌≡◌, ℕ, List, Some, slice_get, refl, ap, ◌∙◌}
use Rattle.std.proofs.lemmas.Option.{slice_get-map}
use Rattle.std.proofs.lemmas.Simd.{map-map}
use Rattle.std.specs.Option.{option_map}
use Rattle.sfc_base.specs.NameLists.{place_of}
use Rattle.sfc_base.specs.declared.ids.ProgId.{ProgId}
use Rattle.sfc_text.specs.Trees.{ProgramTree, SourceTree}
use Rattle.sfc_text.specs.declared.tree.Instance as text
use Rattle.sfc_plant.specs.declared.variable.Variable.{Variable}
use Rattle.sfc_plant.specs.InstanceSpaces.{space_of, space_at, space_among}
use Rattle.sfc_plant.specs.Plants.{PlantData}
use Rattle.sfc_plant.specs.Spaces.{Space, space_in}
use Rattle.sfc_program.specs.sfc_variables.Declarations.{globals_of}
use Rattle.sfc_program.specs.Built.{program_of, step_of, action_of}
use Rattle.sfc_program.specs.Elements.{steps_of, actions_of}
use Rattle.sfc_program.specs.Loading as loading
use Rattle.sfc_load.specs.Loading.{program_names, task_names}
use Rattle.sfc_load.specs.Built.{plant_of, instance_of}

-- the names of a program type that was built are those of its text
pub of_built : (globals : List Variable) (p : ProgramTree) → space_in globals (program_of globals p) ≡ loading.space_of globals p
of_built globals p =
    let space : Space = loading.space_of globals p in
    let steps = map-map (λ s. s.name) (step_of space) (steps_of p.elements) in
    let actions = map-map (λ a. a.name) (action_of space) (actions_of p.elements) in
    rw (steps, actions) refl

pub of_loaded : (s : SourceTree) (i : ProgId) (written : text.Instance) (place : ℕ) (p : ProgramTree)
    → slice_get s.configuration.instances i.0 ≡ Some written → place_of written.program (program_names s.programs) ≡ Some place
    → slice_get s.programs place ≡ Some p → space_of (plant_of s) i ≡ loading.space_of (globals_of s.configuration.globals) p
of_loaded s i written place p here named at =
    let globals : List Variable = globals_of s.configuration.globals in
    let plant : PlantData = plant_of s in
    let instance = instance_of (task_names s.configuration.tasks) (program_names s.programs) in
    let first : slice_get plant.instances i.0 ≡ Some (instance written) =
    slice_get-map instance s.configuration.instances i.0 ∙ ap (option_map instance) here in
    let second : slice_get plant.types place ≡ Some (program_of globals p) =
    slice_get-map (program_of globals) s.programs place ∙ ap (option_map (program_of globals)) at in
    ap (space_at plant) first ∙ rw named (ap (space_among plant) second) ∙ of_built globals p
