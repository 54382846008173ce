use Rattle.sfc_tasks.proofs.Counting.{released_in, in_released, waiting_are}
use Rattle.sfc_tasks.proofs.laws.stretch_releases.Goals as goal

pub returns-clause-members : goal.returns-clause-members
returns-clause-members c interval k before stretch u =
    (released_in interval k before stretch u, in_released interval k before stretch u)

pub returns-clause-waiting : goal.returns-clause-waiting
returns-clause-waiting c interval k calls since ended h = waiting_are interval k calls since ended h
