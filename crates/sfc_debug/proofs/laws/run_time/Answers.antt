use Rattle.sfc_debug.proofs.Sums.{run_time}
use Rattle.sfc_debug.proofs.laws.run_time.Goals as goal

pub returns : goal.returns
returns c plant table h = run_time plant table h
