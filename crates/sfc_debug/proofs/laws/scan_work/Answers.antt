use Rattle.sfc_debug.proofs.Sums.{scan_bound}
use Rattle.sfc_debug.proofs.laws.scan_work.Goals as goal

pub returns : goal.returns
returns c plant table h task accepted = scan_bound plant table h task accepted
