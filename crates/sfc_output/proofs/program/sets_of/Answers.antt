use Rattle.sfc_debug.specs.sfc_instance.Views.{tables_in}
use Rattle.sfc_output.proofs.Done.{sets_done}
use Rattle.sfc_output.proofs.program.sets_of.Goals as goal

pub returns-clause-shows : goal.returns-clause-shows
returns-clause-shows c changes instance_state space shows =
    sets_done space (tables_in c.args.view.now) instance_state c.cleared_flags.result.now c.executed_flags.result.now
    c.cleared_flags.ensures.len (λ tr lt. c.cleared_flags.ensures.each changes instance_state tr lt shows)
    c.executed_flags.ensures.len (λ a lt. c.executed_flags.ensures.each changes instance_state a lt shows)
