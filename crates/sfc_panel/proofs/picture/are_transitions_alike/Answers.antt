use Rattle.std.proofs.Common.{length}
use Rattle.sfc_output.specs.sfc_instance.Answers.{is_transition_cleared}
use Rattle.sfc_output.specs.sfc_instance.Views.{tables_in}
use Rattle.sfc_panel.proofs.Sets.{alike_where}
use Rattle.sfc_panel.proofs.picture.are_transitions_alike.Goals as goal

pub returns : goal.returns
returns c changes old new shot shows =
    alike_where c.args.shot.now.cleared c.cleared_flags.result.now (length (tables_in c.args.view.now).sides)
    (is_transition_cleared (tables_in c.args.view.now) old) (is_transition_cleared (tables_in c.args.view.now) new) c.is_same.result
    shot.transitions c.cleared_flags.ensures.len shot.cleared (λ s lt. c.cleared_flags.ensures.each changes new s lt shows) c.is_same.ensures
