use Rattle.sfc_debug.proofs.Halting.{stopped, after_a_hit}
use Rattle.sfc_debug.proofs.laws.hits_stop.Goals as goal

pub returns-clause-mode : goal.returns-clause-mode
returns-clause-mode c command hit mode = stopped command hit mode

pub returns-clause-scan : goal.returns-clause-scan
returns-clause-scan c plant table h task raw hit = after_a_hit plant table h task raw hit
