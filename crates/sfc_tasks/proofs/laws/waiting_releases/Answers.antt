use Rattle.sfc_tasks.proofs.Waited.{released_since, since_waits}
use Rattle.sfc_tasks.proofs.laws.waiting_releases.Goals as goal

pub returns : goal.returns
returns c interval k calls u = ((λ h. released_since interval k calls u h), λ h. since_waits interval k calls u h)
