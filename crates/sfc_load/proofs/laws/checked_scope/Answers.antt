use Rattle.sfc_load.proofs.CheckedScopes.{of_loaded}
use Rattle.sfc_load.proofs.laws.checked_scope.Goals as goal

pub returns : goal.returns
returns c = of_loaded
