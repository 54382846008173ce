use Rattle.sfc_names.proofs.Shown.{all_shown}
use Rattle.sfc_names.proofs.diagnosing.faults_of.Goals as goal

pub returns : goal.returns
returns c = all_shown c.args.text.now c.all.rest.now c.args.reports.now c.all.found.items c.in_default.ensures.cases c.all.invariant
