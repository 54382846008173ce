-- Names at a place.
use Rattle.std.proofs.Common.{◌≡◌, ℕ, zero, suc, List, [], ◌∷◌, map, slice_get, Some, None, refl}
use Rattle.sfc_plant.specs.declared.action.Action.{Action}
use Rattle.sfc_plant.specs.declared.chart.Step.{Step}
use Rattle.sfc_plant.specs.declared.variable.Variable.{Variable}
use Rattle.sfc_plant.specs.VariableNames.{names_of}
use Rattle.sfc_plant.specs.Names.{name_at, task_name, instance_name, type_name}
use Rattle.sfc_plant.specs.declared.instance.Instance.{Instance}
use Rattle.sfc_plant.specs.declared.program_type.ProgramType.{ProgramType}
use Rattle.sfc_plant.specs.declared.task.Task.{Task}

at_mapped : {A : Type 0} (f : A → List ℕ) (xs : List A) (i : ℕ) (x : A) → slice_get xs i ≡ Some x → name_at (map f xs) i ≡ f x
at_mapped f [] i x e = cc
at_mapped f (y ∷ xs) zero x e = cc
at_mapped f (y ∷ xs) (suc i) x e = at_mapped f xs i x e

none_mapped : {A : Type 0} (f : A → List ℕ) (xs : List A) (i : ℕ) → slice_get xs i ≡ None → name_at (map f xs) i ≡ []
none_mapped f [] i e = refl
none_mapped f (y ∷ xs) zero e = cc
none_mapped f (y ∷ xs) (suc i) e = none_mapped f xs i e

pub named_there : (vs : List Variable) (i : ℕ) (v : Variable) → slice_get vs i ≡ Some v → name_at (names_of vs) i ≡ v.name
named_there vs i v e = at_mapped (λ w. w.name) vs i v e

pub none_there : (vs : List Variable) (i : ℕ) → slice_get vs i ≡ None → name_at (names_of vs) i ≡ []
none_there vs i e = none_mapped (λ w. w.name) vs i e

pub step_there : (ss : List Step) (i : ℕ) (s : Step) → slice_get ss i ≡ Some s → name_at (map (λ x. x.name) ss) i ≡ s.name
step_there ss i s e = at_mapped (λ x. x.name) ss i s e

pub no_step_there : (ss : List Step) (i : ℕ) → slice_get ss i ≡ None → name_at (map (λ x. x.name) ss) i ≡ []
no_step_there ss i e = none_mapped (λ x. x.name) ss i e

pub action_there : (ss : List Action) (i : ℕ) (a : Action) → slice_get ss i ≡ Some a → name_at (map (λ x. x.name) ss) i ≡ a.name
action_there ss i a e = at_mapped (λ x. x.name) ss i a e

pub no_action_there : (ss : List Action) (i : ℕ) → slice_get ss i ≡ None → name_at (map (λ x. x.name) ss) i ≡ []
no_action_there ss i e = none_mapped (λ x. x.name) ss i e

pub task_there : (ts : List Task) (i : ℕ) (t : Task) → slice_get ts i ≡ Some t → task_name ts i ≡ t.name
task_there ts i t e = at_mapped (λ x. x.name) ts i t e

pub no_task_there : (ts : List Task) (i : ℕ) → slice_get ts i ≡ None → task_name ts i ≡ []
no_task_there ts i e = none_mapped (λ x. x.name) ts i e

pub type_there : (ps : List ProgramType) (i : ℕ) (p : ProgramType) → slice_get ps i ≡ Some p → type_name ps i ≡ p.name
type_there ps i p e = at_mapped (λ x. x.name) ps i p e

pub no_type_there : (ps : List ProgramType) (i : ℕ) → slice_get ps i ≡ None → type_name ps i ≡ []
no_type_there ps i e = none_mapped (λ x. x.name) ps i e

pub instance_there : (is : List Instance) (i : ℕ) (x : Instance) → slice_get is i ≡ Some x → instance_name is i ≡ x.name
instance_there is i x e = at_mapped (λ y. y.name) is i x e

pub no_instance_there : (is : List Instance) (i : ℕ) → slice_get is i ≡ None → instance_name is i ≡ []
no_instance_there is i e = none_mapped (λ y. y.name) is i e
