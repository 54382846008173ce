use Rattle.sfc_run.proofs.Epochs.{cuts_none, cuts_then}
use Rattle.sfc_run.proofs.keeper.Keeper.keep.Goals as goal

pub looks-init : goal.looks-init
looks-init g c = cuts_none c.args.self.now.console

pub looks-preserved : goal.looks-preserved
looks-preserved g c = cuts_then c.args.self.now.console c.looks.self.console c.cut.new.self.console c.looks.invariant c.cut.ensures.cuts
