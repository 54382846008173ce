use Rattle.std.proofs.Common.{◌∙◌, ◌≤ℤ◌, ◌^◌, pos, negsuc, ℤ, to_z-of_z, sym, subst}
use Rattle.std.proofs.Math.Logic.{∥∥₁_map}
use Rattle.sfc_core.specs.Agreement.{Agrees, plant_of}
use Rattle.sfc_core.specs.Due.{calls_of}
use Rattle.sfc_core.specs.Openings.{IsOpeningFor}
use Rattle.sfc_core.specs.PlantState.{state_of}
use Rattle.sfc_core.proofs.Instants.{fits}
use Rattle.sfc_core.proofs.Pasts.{opening_agrees}
use Rattle.sfc_core.proofs.resource.Resource.restore.Goals as goal

pub invariant_of-self : goal.invariant_of-self
unfolding plant_of IsOpeningFor
invariant_of-self c =
    let plant = c.args.self.now.plant in
    let opening = c.args.opening.now in
    let same = to_z-of_z (fits opening.last opening.last_low opening.last_high) in
    record {
      whole = c.copy_from.ensures.sizes;
      tasks_sized = c.copy_from-2.ensures.size ∙ c.requires.tasks_sized;
      singles_sized = c.read-self.ensures.len;
      few = c.args.self.now.few;
      no_single = c.read-self.ensures.none;
      singles_read = c.read-self.ensures.value;
      last_low = subst (λ (t : ℤ). negsuc 0 ≤ℤ t) (sym same) opening.last_low;
      last_high = subst (λ (t : ℤ). t ≤ℤ pos (2 ^ 62)) (sym same) opening.last_high;
      agrees = ∥∥₁_map c.requires.some (λ x. (
        x.0,
        record {
          instant = same ∙ x.1.instant;
          instances_agree = c.copy_from.ensures.agrees (state_of plant x.0) x.1.instances_agree;
          tasked = c.copy_from-2.ensures.agrees plant.tasks (calls_of plant x.0) x.1.tasked;
        },
      ));
    }

pub returns-clause-restored : goal.returns-clause-restored
unfolding Agrees plant_of
returns-clause-restored c h e =
    let plant = c.args.self.now.plant in
    let opening = c.args.opening.now in
    let same = to_z-of_z (fits opening.last opening.last_low opening.last_high) in
    let k = opening_agrees plant opening h c.requires e in
    record {
      instant = same ∙ k.instant;
      instances_agree = c.copy_from.ensures.agrees (state_of plant h) k.instances_agree;
      tasked = c.copy_from-2.ensures.agrees plant.tasks (calls_of plant h) k.tasked;
    }
