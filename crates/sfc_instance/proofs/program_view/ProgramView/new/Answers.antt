use Rattle.std.proofs.Common.{false, ◌∙◌}
use Rattle.sfc_image.specs.Changes.{settled}
use Rattle.sfc_image.specs.Environments.{environment_of}
use Rattle.sfc_instance.specs.Views.{Shows}
use Rattle.sfc_instance.proofs.program_view.ProgramView.new.Goals as goal

pub returns-clause-shows : goal.returns-clause-shows
unfolding Shows
returns-clause-shows c changes instance_state agrees h =
    let tables = c.args.tables.now in
    let active = c.readings-steps.ensures.active tables instance_state agrees in
    let times = c.readings-steps.ensures.times tables instance_state agrees in
    record {
      program = agrees;
      variables =
          c.view.ensures c.args.plant.now (settled changes) h
          ∙ (λ i. environment_of c.args.plant.now changes c.args.instance (record { active = active i; times = times i; q = false }));
    }
