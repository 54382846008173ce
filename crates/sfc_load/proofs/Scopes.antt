-- The steps of a program type of a plant.
use Rattle.std.proofs.Common.{◌≡◌, ℕ, ◌<◌, ◌≤◌, length, get_or, slice_get, Some, subst}
use Rattle.std.proofs.lemmas.Option.{slice_get_within, get_or_from_slice_get}
use Rattle.sfc_base.specs.declared.limits.TheConstants.{STEPS}
use Rattle.sfc_plant.specs.declared.program_type.ProgramType.{ProgramType}
use Rattle.sfc_plant.specs.Plants.{PlantData}
use Rattle.sfc_plant.specs.Sound.{IsPlant}

-- a program type of a plant has no more steps than are allowed
pub steps_within : (plant : PlantData) (i : ℕ) (p : ProgramType) → IsPlant plant → slice_get plant.types i ≡ Some p
    → length p.chart.steps ≤ STEPS
steps_within plant i p sound e =
    let lt : i < length plant.types = slice_get_within plant.types i p e in
    let is : get_or plant.types i p ≡ p = get_or_from_slice_get plant.types i p p e in
    subst (λ (q : ProgramType). length q.chart.steps ≤ STEPS) is (sound.types i p lt).step_limit
