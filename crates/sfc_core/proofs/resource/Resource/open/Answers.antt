use Rattle.std.proofs.Common.{[], arith, refl}
use Rattle.std.proofs.lemmas.Int.{ints}
use Rattle.sfc_core.specs.Agreement.{Agrees, plant_of}
use Rattle.sfc_core.specs.Due.{calls_of}
use Rattle.sfc_core.specs.PlantState.{state_of}
use Rattle.sfc_core.proofs.resource.Resource.open.Goals as goal

pub invariant_of-result : goal.invariant_of-result
unfolding Agrees plant_of calls_of state_of
invariant_of-result c = record {
  whole = c.in_ok-instances.ensures.sizes;
  tasks_sized = c.new-tasks.ensures.size;
  singles_sized = c.read-singles.ensures.len;
  few = c.read-singles.ensures.few;
  no_single = c.read-singles.ensures.none;
  singles_read = c.read-singles.ensures.value;
  last_low = omega (arith, ints);
  last_high = omega (arith, ints);
  agrees = ∣ ([], record { instant = refl; instances_agree = c.in_ok-instances.ensures.agrees; tasked = c.new-tasks.ensures.agrees }) ∣₁;
}

pub returns-clause-agrees : goal.returns-clause-agrees
unfolding Agrees plant_of calls_of state_of
returns-clause-agrees c = record { instant = refl; instances_agree = c.in_ok-instances.ensures.agrees; tasked = c.new-tasks.ensures.agrees }
