use Rattle.sfc_timers.proofs.Numbers.{set_since, on_since}
use Rattle.sfc_timers.proofs.laws.held.Goals as goal

pub returns : goal.returns
returns c h = (set_since h, λ (j, since). on_since h j since)
