use Rattle.std.proofs.Common.{length}
use Rattle.sfc_output.specs.sfc_instance.Answers.{is_action_executed}
use Rattle.sfc_output.specs.sfc_instance.Views.{tables_in}
use Rattle.sfc_panel.proofs.Sets.{alike_where}
use Rattle.sfc_panel.proofs.picture.are_actions_alike.Goals as goal

pub returns : goal.returns
returns c changes old new shot shows =
    alike_where c.args.shot.now.executed c.executed_flags.result.now (length (tables_in c.args.view.now).actions)
    (is_action_executed (tables_in c.args.view.now) old) (is_action_executed (tables_in c.args.view.now) new) c.is_same.result
    shot.actions c.executed_flags.ensures.len shot.executed (λ s lt. c.executed_flags.ensures.each changes new s lt shows) c.is_same.ensures
