use Rattle.sfc_evolve.proofs.Shown.{shown_is, worked_out_is}
use Rattle.sfc_evolve.proofs.laws.shown_times.Goals as goal

pub returns-clause-shown : goal.returns-clause-shown
returns-clause-shown c tables steps scans s t agrees lt = shown_is tables steps scans s t agrees lt

pub returns-clause-worked_out : goal.returns-clause-worked_out
returns-clause-worked_out c tables steps scans s t agrees lt = worked_out_is tables steps scans s t agrees lt
