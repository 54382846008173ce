-- Parts of a plant have the names with which they were written.
use Rattle.std.proofs.Common.{◌≡◌, ℕ, List, [], ◌∷◌, map, refl, ap, sym, ◌∙◌}
use Rattle.sfc_text.specs.declared.tree.Task as text_task
use Rattle.sfc_text.specs.declared.tree.Instance as text_instance
use Rattle.sfc_text.specs.Trees.{ProgramTree}
use Rattle.sfc_plant.specs.declared.variable.Variable.{Variable}
use Rattle.sfc_plant.specs.declared.program_type.ProgramType.{ProgramType}
use Rattle.sfc_program.specs.Built.{program_of}
use Rattle.sfc_plant.specs.declared.task.Task.{Task}
use Rattle.sfc_plant.specs.declared.instance.Instance.{Instance}
use Rattle.sfc_load.specs.Loading.{task_name, program_name, instance_name}
use Rattle.sfc_load.specs.Built.{task_of, instance_of}

map-map : {A B C : Type 0} (f : A → B) (g : B → C) (xs : List A) → map g (map f xs) ≡ map (λ x. g (f x)) xs
map-map f g [] = refl
map-map f g (x ∷ xs) = ap (λ ys. g (f x) ∷ ys) (map-map f g xs)

pub tasks_named : (globals : List Variable) (written : List text_task.Task) (names : List (List ℕ)) (tasks : List Task)
    → names ≡ map task_name written → tasks ≡ map (task_of globals) written → names ≡ map (λ t. t.name) tasks
tasks_named globals written names tasks n t = n ∙ sym (map-map (task_of globals) (λ t. t.name) written) ∙ ap (map (λ t. t.name)) (sym t)

pub types_named : (globals : List Variable) (written : List ProgramTree) (names : List (List ℕ)) (types : List ProgramType)
    → names ≡ map program_name written → types ≡ map (program_of globals) written → names ≡ map (λ t. t.name) types
types_named globals written names types n t = n ∙ sym (map-map (program_of globals) (λ t. t.name) written) ∙ ap (map (λ t. t.name)) (sym t)

pub instances_named : (tasks types : List (List ℕ)) (written : List text_instance.Instance) (names : List (List ℕ)) (instances : List Instance)
    → names ≡ map instance_name written → instances ≡ map (instance_of tasks types) written → names ≡ map (λ i. i.name) instances
instances_named tasks types written names instances n t =
    n ∙ sym (map-map (instance_of tasks types) (λ i. i.name) written) ∙ ap (map (λ i. i.name)) (sym t)
