use Rattle.std.proofs.Common.{[], refl}
use Rattle.sfc_core.specs.Due.{calls_of}
use Rattle.sfc_core.specs.Openings.{IsOpeningFor, past_of}
use Rattle.sfc_core.specs.PlantState.{state_of}
use Rattle.sfc_core.proofs.Pasts.{parts_keep}
use Rattle.sfc_core.proofs.opening.Opening.new.Goals as goal

pub returns-clause-sizes : goal.returns-clause-sizes
unfolding IsOpeningFor calls_of state_of
returns-clause-sizes c = record {
  whole = c.in_ok-new.ensures.sizes;
  tasks_sized = c.new-2.ensures.size;
  some = ∣ ([], record { instant = refl; instances_agree = c.in_ok-new.ensures.agrees; tasked = c.new-2.ensures.agrees }) ∣₁;
}

pub returns-clause-empty : goal.returns-clause-empty
unfolding past_of calls_of state_of
returns-clause-empty c =
    parts_keep c.args.plant.now _ _ _ [] c.in_ok-new.ensures.sizes
    record { instant = refl; instances_agree = c.in_ok-new.ensures.agrees; tasked = c.new-2.ensures.agrees }
