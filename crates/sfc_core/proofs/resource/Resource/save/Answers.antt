use Rattle.std.proofs.Common.{◌∙◌, to_z-of_z}
use Rattle.std.proofs.Math.Logic.{∥∥₁_map}
use Rattle.sfc_core.specs.Agreement.{Agrees, plant_of}
use Rattle.sfc_core.specs.Due.{calls_of}
use Rattle.sfc_core.specs.Openings.{IsOpeningFor, past_of}
use Rattle.sfc_core.specs.PlantState.{state_of}
use Rattle.sfc_core.proofs.Instants.{fits}
use Rattle.sfc_core.proofs.Pasts.{parts_keep}
use Rattle.sfc_core.proofs.resource.Resource.save.Goals as goal

-- what the opening has is what the events leave
pub returns-clause-sizes : goal.returns-clause-sizes
unfolding plant_of IsOpeningFor
returns-clause-sizes c =
    let resource = c.args.self.now in
    let plant = resource.plant in
    let same = to_z-of_z (fits resource.last resource.last_low resource.last_high) in
    record {
      whole = c.copy_from.ensures.sizes;
      tasks_sized = c.copy_from-2.ensures.size ∙ resource.tasks_sized;
      some = ∥∥₁_map resource.agrees (λ x. (
        x.0,
        record {
          instant = same ∙ x.1.instant;
          instances_agree = c.copy_from.ensures.agrees (state_of plant x.0) x.1.instances_agree;
          tasked = c.copy_from-2.ensures.agrees plant.tasks (calls_of plant x.0) x.1.tasked;
        },
      ));
    }

pub returns-clause-saved : goal.returns-clause-saved
unfolding Agrees plant_of past_of
returns-clause-saved c h k =
    let resource = c.args.self.now in
    let plant = resource.plant in
    let same = to_z-of_z (fits resource.last resource.last_low resource.last_high) in
    parts_keep plant _ _ _ h c.copy_from.ensures.sizes
    record {
      instant = same ∙ k.instant;
      instances_agree = c.copy_from.ensures.agrees (state_of plant h) k.instances_agree;
      tasked = c.copy_from-2.ensures.agrees plant.tasks (calls_of plant h) k.tasked;
    }
