use Rattle.sfc_timers.proofs.Numbers.{run_since, elapsed_since}
use Rattle.sfc_timers.proofs.laws.delayed.Goals as goal

pub returns : goal.returns
returns c h = (run_since h, λ (m, since). elapsed_since h m since)
