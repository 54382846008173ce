use Rattle.std.proofs.Common.{◌∙◌, ◌∷◌, arith, w64, SFits, to_z-of_z}
use Rattle.std.proofs.Math.Logic.{∥∥₁_map, ∥∥₁_elim}
use Rattle.std.proofs.lemmas.Int.{ints}
use Rattle.std.specs.Coded.{×_prop, le_prop}
use Rattle.sfc_core.specs.Agreement.{Agrees, plant_of}
use Rattle.sfc_core.specs.PlantState.{state_of}
use Rattle.sfc_core.proofs.Accepted.{kept_after, answered}
use Rattle.sfc_core.proofs.resource.Resource.accept.Goals as goal

pub invariant_of-self : goal.invariant_of-self
unfolding Agrees plant_of
invariant_of-self c =
    let s = c.args.self.now in
    let fits : SFits w64 c.args.t = c.ranges.t in
    let after =
    kept_after s.plant c.args.event c.args.t s.instances c.change-bits.new.instances s.singles c.tell_rises.new.singles
    s.tasks c.elapse.new.self c.serve.new.tasks c.tell_rises.new.tasks
    (simp (to_z-of_z, fits) at c.change-bits.ensures.agrees) c.tell_rises.ensures.value
    (simp (to_z-of_z, fits, c.as_slice.ensures) at (c.elapse.ensures.agrees s.plant.tasks)) (c.serve.ensures.agrees s.plant.tasks)
    (simp (to_z-of_z, fits) at (c.tell_rises.ensures.agrees s.plant.tasks)) in
    record {
      whole = c.change-bits.ensures.sizes;
      tasks_sized = c.tell_rises.ensures.size ∙ c.serve.ensures.size ∙ c.elapse.ensures.size ∙ s.tasks_sized;
      singles_sized = c.tell_rises.ensures.len;
      few = s.few;
      no_single = c.tell_rises.ensures.none;
      singles_read = c.tell_rises.ensures.value;
      last_low = omega (arith, ints);
      last_high = omega (arith, ints);
      agrees =
          ∥∥₁_map s.agrees
          (λ x. ((c.args.event, c.args.t) ∷ x.0, simp (to_z-of_z, fits) (after x.0 x.1.instances_agree x.1.tasked (c.requires.ready x.0 x.1))));
    }

pub returns-clause-value : goal.returns-clause-value
unfolding Agrees plant_of
returns-clause-value c h a =
    let s = c.args.self.now in
    let fits : SFits w64 c.args.t = c.ranges.t in
    let after =
    kept_after s.plant c.args.event c.args.t s.instances c.change-bits.new.instances s.singles c.tell_rises.new.singles
    s.tasks c.elapse.new.self c.serve.new.tasks c.tell_rises.new.tasks
    (simp (to_z-of_z, fits) at c.change-bits.ensures.agrees) c.tell_rises.ensures.value
    (simp (to_z-of_z, fits, c.as_slice.ensures) at (c.elapse.ensures.agrees s.plant.tasks)) (c.serve.ensures.agrees s.plant.tasks)
    (simp (to_z-of_z, fits) at (c.tell_rises.ensures.agrees s.plant.tasks)) in
    c.outcome.ensures.value s.plant.tasks _ (after h a.instances_agree a.tasked (c.requires.ready h a)).tasked
    ∙ answered s.plant h c.args.event c.args.t c.change-bits.result
    (simp (to_z-of_z, fits) at (c.change-bits.ensures.bits (state_of s.plant h) a.instances_agree))

pub returns-clause-agrees : goal.returns-clause-agrees
unfolding Agrees plant_of
returns-clause-agrees c h a =
    let s = c.args.self.now in
    let fits : SFits w64 c.args.t = c.ranges.t in
    let after =
    kept_after s.plant c.args.event c.args.t s.instances c.change-bits.new.instances s.singles c.tell_rises.new.singles
    s.tasks c.elapse.new.self c.serve.new.tasks c.tell_rises.new.tasks
    (simp (to_z-of_z, fits) at c.change-bits.ensures.agrees) c.tell_rises.ensures.value
    (simp (to_z-of_z, fits, c.as_slice.ensures) at (c.elapse.ensures.agrees s.plant.tasks)) (c.serve.ensures.agrees s.plant.tasks)
    (simp (to_z-of_z, fits) at (c.tell_rises.ensures.agrees s.plant.tasks)) in
    simp (to_z-of_z, fits) (after h a.instances_agree a.tasked (c.requires.ready h a))

pub returns-clause-ticks : goal.returns-clause-ticks
unfolding Agrees plant_of
returns-clause-ticks c =
    let s = c.args.self.now in
    let sized = s.tasks_sized in
    let elapsed = c.elapse.ensures.size in
    let served = c.serve.ensures.size in
    ∥∥₁_elim s.agrees (×_prop le_prop le_prop)
    (λ x.
    let changed = c.change-bits.ensures.ticks (state_of s.plant x.0) x.1.instances_agree in (
      omega (arith, c.elapse.ensures.ticks.0, changed.0, c.serve.ensures.ticks.0, c.tell_rises.ensures.ticks.0, c.outcome.ensures.ticks.0),
      omega (arith, c.elapse.ensures.ticks.1, changed.1, c.serve.ensures.ticks.1, c.tell_rises.ensures.ticks.1, c.outcome.ensures.ticks.1, sized, elapsed, served),
    ))
