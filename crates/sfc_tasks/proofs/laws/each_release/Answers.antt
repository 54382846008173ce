use Rattle.sfc_tasks.proofs.Counting.{each_counts}
use Rattle.sfc_tasks.proofs.laws.each_release.Goals as goal

pub returns : goal.returns
returns c interval k calls since ended h = each_counts interval k calls since ended h
