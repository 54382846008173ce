use Rattle.std.proofs.Common.{◌≡◌, ◌≢◌, ◌∙◌, ℕ, Some, ap, arith, slice_get, subst, sym, ℤ}
use Rattle.sfc_base.specs.declared.ids.TaskId.{TaskId}
use Rattle.sfc_plant.specs.declared.instance.Instance.{Instance}
use Rattle.sfc_plant.specs.Plants.{PlantData}
use Rattle.sfc_instances.specs.PlantState.{PlantState, after_task}
use Rattle.sfc_instances.proofs.InstanceState.{left_by_task}
use Rattle.sfc_core.specs.PlantState.{state_of}
use Rattle.sfc_core.proofs.laws.scans.Goals as goal

left : (plant : PlantData) (task : TaskId) (t : ℤ) (state : PlantState) (k : ℕ) (instance : Instance)
    → slice_get plant.instances k ≡ Some instance → instance.task.0 ≢ task.0
    → (after_task plant task t 0 plant.instances state).instance_state k ≡ state.instance_state k
left plant task t state k instance is other =
    left_by_task plant task t k 0 plant.instances state
    (λ n i has e.
    let here : n ≡ k = omega (arith, e) in
    let same : Some i ≡ Some instance = sym has ∙ ap (slice_get plant.instances) here ∙ is in
    let one : instance ≡ i = cc in
    subst (λ (x : Instance). x.task.0 ≡ task.0 → ⊥) one other)

pub returns-clause-due : goal.returns-clause-due
unfolding state_of
returns-clause-due c plant h task t p instance is other = left plant task t (state_of plant h) p.0 instance is other

pub returns-clause-forced : goal.returns-clause-forced
unfolding state_of
returns-clause-forced c plant h task t p instance is other = left plant task t (state_of plant h) p.0 instance is other
