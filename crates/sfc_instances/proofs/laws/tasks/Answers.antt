use Rattle.std.proofs.Common.{◌≡◌, ◌∙◌, Some, ap, arith, slice_get, subst, sym}
use Rattle.sfc_plant.specs.declared.instance.Instance.{Instance}
use Rattle.sfc_instances.proofs.InstanceState.{left_by_task}
use Rattle.sfc_instances.proofs.laws.tasks.Goals as goal

pub returns : goal.returns
returns c plant task t state k instance is other =
    left_by_task plant task t k 0 plant.instances state
    (λ n i has e.
    let here : n ≡ k = omega (arith, e) in
    let same : Some i ≡ Some instance = sym has ∙ ap (slice_get plant.instances) here ∙ is in
    let one : instance ≡ i = cc in
    subst (λ (x : Instance). x.task.0 ≡ task.0 → ⊥) one other)
