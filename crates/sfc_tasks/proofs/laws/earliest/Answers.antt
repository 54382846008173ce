use Rattle.sfc_tasks.proofs.Waited.{first_least}
use Rattle.sfc_tasks.proofs.laws.earliest.Goals as goal

pub returns : goal.returns
returns c interval k calls since in_order first = first_least interval k calls since in_order first
