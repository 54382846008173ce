use Rattle.sfc_tasks.proofs.Counting.{overruns_are}
use Rattle.sfc_tasks.proofs.laws.stretch_overruns.Goals as goal

pub returns : goal.returns
returns c interval k calls since ended h = overruns_are interval k calls since ended h
