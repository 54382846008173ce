use Rattle.std.proofs.Common.{length}
use Rattle.sfc_output.specs.sfc_instance.Answers.{is_step_active}
use Rattle.sfc_output.specs.sfc_instance.Views.{tables_in}
use Rattle.sfc_panel.proofs.Sets.{alike_where}
use Rattle.sfc_panel.proofs.picture.are_steps_alike.Goals as goal

pub returns : goal.returns
returns c changes old new shot shows =
    alike_where c.args.shot.now.active c.active_flags.result.now (length (tables_in c.args.view.now).initial)
    (is_step_active (tables_in c.args.view.now) old) (is_step_active (tables_in c.args.view.now) new) c.is_same.result
    shot.steps c.active_flags.ensures.len shot.active (λ s lt. c.active_flags.ensures.each changes new s lt shows) c.is_same.ensures
